-- The root slots of a disk, and which of them holds the root. A slot is a block.
use Rattle.std.specs.Prelude.{◌≡◌, ◌<◌, ◌^◌, ℕ, Bool, true, false, IsTrue, ◌&&◌, nat_lt, nat_le, nat_eq, if◌then◌else◌, List, [], ◌∷◌, length, take, drop, get_or, Option, Some, None}
use Rattle.std.specs.Int.{from_be_bytes, to_be_bytes, w32, w64}
use Rattle.std.specs.List.{concat}
use Rattle.rs_extent.specs.Blocks.{block_size}
use Rattle.rs_commit.specs.declared.root.Root.{Root}
use Rattle.rs_commit.specs.declared.slot.Slot.{Slot}
use Rattle.rs_commit.specs.declared.slot.Slot.TheVariants.{First, Second}
use Rattle.rs_commit.specs.declared.slot.SlotContent.{SlotContent}
use Rattle.rs_commit.specs.declared.slot.SlotContent.TheVariants.{Closed, Unknown, Open}

-- where a slot begins on the disk
abbrev pub offset : Slot → ℕ
offset First = 0
offset Second = block_size

abbrev pub other : Slot → Slot
other First = Second
other Second = First

-- the block of a slot; it is short where the disk ends in it
abbrev pub block : List ℕ → Slot → List ℕ
block image slot = take block_size (drop (offset slot) image)

-- n bytes of a block, from one on
abbrev pub field : List ℕ → ℕ → ℕ → List ℕ
field bytes at n = take n (drop at bytes)

-- byte 0 is the gate, byte 1 the version
abbrev pub gate : List ℕ → ℕ
gate bytes = get_or bytes 0 0

abbrev pub version : List ℕ → ℕ
version bytes = get_or bytes 1 0

-- the versions that are known, and the one that is written
abbrev pub is_known : ℕ → Bool
is_known v = nat_le 1 v && nat_le v 2

abbrev pub written_version : ℕ
written_version = 2

-- the root in bytes 1 to 53; its numbers are big endian
unfoldable pub root_in : List ℕ → Root
root_in bytes = record {
  version = version bytes;
  generation = from_be_bytes w64 (field bytes 2 8);
  directory = record { first = from_be_bytes w32 (field bytes 10 4); blocks = from_be_bytes w32 (field bytes 14 4) };
  length = from_be_bytes w32 (field bytes 18 4);
  sha256 = field bytes 22 32;
}

-- a slot is open where its block is whole and its gate is 1
abbrev pub is_open : List ℕ → Bool
is_open bytes = nat_eq (length bytes) block_size && nat_eq (gate bytes) 1

-- the content of a slot: Closed where it isn't open; only versions 1 and 2 are known
unfoldable pub content : List ℕ → SlotContent
content bytes = if is_open bytes then (if is_known (version bytes) then Open (root_in bytes) else Unknown) else Closed

-- The state of the slots: the slot that holds the root, the root, and whether the other slot, the spare, is open.
pub record Standing : Type 0 where
  pub slot : Slot
  pub root : Root
  pub spare_open : Bool

-- the slot of the greater generation; no slot where they are equal
abbrev pub newer : Root → Root → Option Standing
newer first second =
    if nat_lt second.generation first.generation then Some (record { slot = First; root = first; spare_open = true })
    else (if nat_lt first.generation second.generation then Some (record { slot = Second; root = second; spare_open = true }) else None)

-- The rule: the open slot holds the root, of two open ones the newer. There is no root where no slot is open, where an
-- open one has an unknown version, and where both are open with equal generations.
abbrev pub pick : SlotContent → SlotContent → Option Standing
pick (Open first) Closed = Some (record { slot = First; root = first; spare_open = false })
pick Closed (Open second) = Some (record { slot = Second; root = second; spare_open = false })
pick (Open first) (Open second) = newer first second
pick first second = None

-- the state of the slots of a whole image
unfoldable pub current : List ℕ → Option Standing
current image = pick (content (block image First)) (content (block image Second))

-- an image opens to this root
abbrev pub OpensTo : Root → List ℕ → Type 0
OpensTo root image = (slots : Standing) × (current image ≡ Some slots) × (slots.root ≡ root)

-- bytes 1 to 53 of a slot that holds a root: its version, and its other fields
unfoldable pub payload_of : Root → List ℕ
payload_of root =
    concat
    ((root.version ∷ []) ∷ to_be_bytes w64 root.generation ∷ to_be_bytes w32 root.directory.first ∷ to_be_bytes w32 root.directory.blocks
    ∷ to_be_bytes w32 root.length ∷ root.sha256 ∷ [])

-- The version of a root is known, and its other fields fit their places.
pub record IsLawfulRoot (root : Root) : Type 0 where
  pub version : IsTrue (is_known root.version)
  pub generation : root.generation < 2 ^ 64
  pub first : root.directory.first < 2 ^ 32
  pub blocks : root.directory.blocks < 2 ^ 32
  pub bytes : root.length < 2 ^ 32
  pub digest : length root.sha256 ≡ 32
