-- The blocks that extents have: apart, within, taken, disjoint from a set of blocks.
use Rattle.std.specs.Prelude.{◌≡◌, ◌<◌, ◌≤◌, ◌+◌, ◌*◌, ℕ, Bool, true, false, ◌&&◌, ◌||◌, nat_lt, nat_le, List, [], ◌∷◌, length}
use Rattle.rs_extent.specs.declared.Extent.{Extent}
use Rattle.rs_extent.specs.Blocks.{block_size, is_used}

-- the block is one of the extent's
abbrev pub within : Extent → ℕ → Bool
within e b = nat_le e.first b && nat_lt b (e.first + e.blocks)

-- the block is one of some extent's
abbrev pub in_some : List Extent → ℕ → Bool
in_some [] b = false
in_some (e ∷ es) b = within e b || in_some es b

-- no block is in both sets
abbrev pub AreDisjoint : (ℕ → Bool) → (ℕ → Bool) → Type 0
AreDisjoint one other = (b : ℕ) → one b ≡ true → other b ≡ false

-- all blocks of the first set are in the second one
abbrev pub IsSubset : (ℕ → Bool) → (ℕ → Bool) → Type 0
IsSubset one other = (b : ℕ) → one b ≡ true → other b ≡ true

-- no two of the extents have a block in common
abbrev pub AreApart : List Extent → Type 0
AreApart [] = Unit {0}
AreApart (e ∷ es) = AreDisjoint (within e) (in_some es) × AreApart es

-- all blocks of the extent lie on a disk of this many bytes
abbrev pub IsOnDisk : Extent → ℕ → Type 0
IsOnDisk e size = (b : ℕ) → within e b ≡ true → block_size * b + block_size ≤ size

-- all blocks of the extents lie on a disk of this many bytes
abbrev pub AreOnDisk : List Extent → ℕ → Type 0
AreOnDisk extents size = (b : ℕ) → in_some extents b ≡ true → block_size * b + block_size ≤ size

-- no block of the extent is in the set
abbrev pub IsBeside : (ℕ → Bool) → Extent → Type 0
IsBeside kept e = AreDisjoint (within e) kept

-- no block of any of the extents is in the set
abbrev pub AreBeside : (ℕ → Bool) → List Extent → Type 0
AreBeside kept es = AreDisjoint (in_some es) kept

-- All blocks of the extents are on the disk and free, and no two of the extents have a block in common.
pub record CanTake (used : List Bool) (extents : List Extent) : Type 0 where
  pub apart : AreApart extents
  pub is_free : (b : ℕ) → in_some extents b ≡ true → is_used used b ≡ false

-- The extents were free and become used: they lie on the disk, no two have a block in common, and all other blocks stay
-- as they were.
pub record AreTaken (old new : List Bool) (extents : List Extent) : Type 0 where
  pub size : length new ≡ length old
  pub inside : (b : ℕ) → in_some extents b ≡ true → b < length old
  pub before : (b : ℕ) → in_some extents b ≡ true → is_used old b ≡ false
  pub after : (b : ℕ) → in_some extents b ≡ true → is_used new b ≡ true
  pub others : (b : ℕ) → in_some extents b ≡ false → is_used new b ≡ is_used old b
  pub apart : AreApart extents

-- All blocks of the extents are on the disk and used, and no two of the extents have a block in common.
pub record CanGive (used : List Bool) (extents : List Extent) : Type 0 where
  pub apart : AreApart extents
  pub on_disk : (b : ℕ) → in_some extents b ≡ true → b < length used
  pub are_used : (b : ℕ) → in_some extents b ≡ true → is_used used b ≡ true

-- The extents become free, and all other blocks stay as they were.
pub record AreGiven (old new : List Bool) (extents : List Extent) : Type 0 where
  pub size : length new ≡ length old
  pub after : (b : ℕ) → in_some extents b ≡ true → is_used new b ≡ false
  pub others : (b : ℕ) → in_some extents b ≡ false → is_used new b ≡ is_used old b
