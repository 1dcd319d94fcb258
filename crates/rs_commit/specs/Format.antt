-- The slots as they are made.
use Rattle.std.specs.Prelude.{◌≡◌, ◌⊎◌, ℕ, ◌-◌, ◌≤◌, false, List, [], ◌∷◌, ◌++◌, length, get_or, replicate, None}
use Rattle.rs_disk.specs.Medium.{Medium, IsImage, over, resting}
use Rattle.rs_commit.specs.declared.root.Root.{Root}
use Rattle.rs_commit.specs.declared.slot.Slot.TheVariants.{First, Second}
use Rattle.rs_commit.specs.Slots.{Standing, OpensTo, offset, block, gate, current, payload_of, written_version}
use Rattle.rs_commit.specs.Commit.{AreSettled, IsReady, OutsideOf, SameBehind, behind_slots}

-- the block of a slot: its gate, its payload, and zeros
unfoldable pub slot_bytes : ℕ → List ℕ → List ℕ
slot_bytes gate payload = gate ∷ (payload ++ replicate (511 - length payload) 0)

-- blocks 0 and 1 after formatting: the first slot is open and holds the root, the second is closed and has the version
-- that is written
abbrev pub formatted : Root → List ℕ
formatted root = slot_bytes 1 (payload_of root) ++ slot_bytes 0 (written_version ∷ [])

-- their state
abbrev pub fresh : Root → Standing
fresh root = record { slot = First; root = root; spare_open = false }

-- both slots with a closed gate; their other bytes stay
abbrev pub with_closed_gates : List ℕ → List ℕ
with_closed_gates bytes = over (over bytes (offset First) (0 ∷ [])) (offset Second) (0 ∷ [])

-- the first slot open, with a root and zeros after it; the second slot stays
abbrev pub with_first_root : List ℕ → Root → List ℕ
with_first_root bytes root = over bytes (offset First) (slot_bytes 1 (payload_of root))

-- two lists of one size, the same at every byte that is the gate of neither slot
pub record SameButGates (one two : List ℕ) : Type 0 where
  pub size : length one ≡ length two
  pub bytes : (i : ℕ) → ¬ (i ≡ offset First) → ¬ (i ≡ offset Second) → get_or one i 0 ≡ get_or two i 0

-- an image is as some image at entry, except for the gates of its slots
abbrev pub IsAsBefore : Medium → List ℕ → Type 0
IsAsBefore entry image = (e : List ℕ) × IsImage entry e × SameButGates image e

-- The disk has blocks 0 and 1, a read gives both gates closed, and both blocks are settled. So every image opens to no
-- root.
pub record AreShut (m : Medium) : Type 0 where
  pub room : 1024 ≤ length m.seen
  pub first : gate (block m.seen First) ≡ 0
  pub second : gate (block m.seen Second) ≡ 0
  pub settled : AreSettled m

-- An image opens to no root, and its bytes after the slots are those of an image at entry; or it opens to this root,
-- and these bytes are those that a read gave at entry.
abbrev pub NoneOrRoot : Medium → Root → List ℕ → Type 0
NoneOrRoot entry root image = ((current image ≡ None) × OutsideOf entry image) ⊎ (OpensTo root image × SameBehind image entry.seen)

-- The result of a successful formatting: `made` is the state of the slots.
pub record AreMade (root : Root) (made : Standing) (entry exit : Medium) : Type 0 where
  -- the first slot holds the root, and the spare is closed
  pub slots : made ≡ fresh root
  -- blocks 0 and 1 are as they are made, the bytes after them are those that a read gave, and all bytes are settled
  pub written : exit ≡ resting (formatted root ++ behind_slots entry.seen)
  -- a commit may follow
  pub ready : IsReady made exit

-- The result of putting a root into the first slot: `made` is the state of the slots.
pub record HoldsFirst (root : Root) (made : Standing) (entry exit : Medium) : Type 0 where
  -- the first slot holds the root, and the spare is closed
  pub slots : made ≡ fresh root
  -- the first slot is open and holds it, elsewhere are the bytes that a read gave, and all bytes are settled
  pub written : exit ≡ resting (with_first_root entry.seen root)
  -- where both were closed, a commit may follow
  pub ready : AreShut entry → IsReady made exit
