-- The blocks of a disk as a list of yes and no: whether the block is used, from block 0 on.
use Rattle.std.specs.Prelude.{◌≡◌, ℕ, ◌+◌, ◌<◌, ◌≤◌, Bool, true, false, List, length, get_or}
use Rattle.rs_extent.specs.declared.Extent.{Extent}

-- the number of bytes of a block
abbrev pub block_size : ℕ
block_size = 512

-- a block is used; every block past the end of the disk counts as used, so that no run reaches there
abbrev pub is_used : List Bool → ℕ → Bool
is_used used b = get_or used b true

-- n blocks in a row are free
abbrev pub IsFreeRun : List Bool → ℕ → ℕ → Type 0
IsFreeRun used first n = (b : ℕ) → first ≤ b → b < first + n → is_used used b ≡ false

-- all blocks of an extent are free, and so on the disk
abbrev pub IsFree : List Bool → Extent → Type 0
IsFree used e = IsFreeRun used e.first e.blocks

-- all blocks of an extent are on the disk and used
abbrev pub IsTaken : List Bool → Extent → Type 0
IsTaken used e = (b : ℕ) → e.first ≤ b → b < e.first + e.blocks → (b < length used) × (is_used used b ≡ true)

-- the extent is the lowest run of n free blocks on the disk
pub record IsLowest (used : List Bool) (n : ℕ) (e : Extent) : Type 0 where
  pub blocks : e.blocks ≡ n
  pub inside : e.first + n ≤ length used
  pub is_free : IsFree used e
  pub lowest : (first : ℕ) → first < e.first → IsFreeRun used first n → ⊥

-- the blocks of an extent become used (true) or free (false), and the others stay as they were
pub record Sets (old new : List Bool) (e : Extent) (value : Bool) : Type 0 where
  pub size : length new ≡ length old
  pub within : (b : ℕ) → e.first ≤ b → b < e.first + e.blocks → is_used new b ≡ value
  pub before : (b : ℕ) → b < e.first → is_used new b ≡ is_used old b
  pub after : (b : ℕ) → e.first + e.blocks ≤ b → is_used new b ≡ is_used old b
