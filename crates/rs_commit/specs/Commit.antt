-- The possible contents of a disk during a commit, and the content after it.
use Rattle.std.specs.Prelude.{◌≡◌, ◌⊎◌, ℕ, ◌+◌, ◌<◌, ◌≤◌, false, List, ◌∷◌, length, drop, get_or, Some}
use Rattle.rs_extent.specs.declared.Extent.{Extent}
use Rattle.rs_disk.specs.Medium.{Medium, DiskState, IsImage, over, resting}
use Rattle.rs_disk.specs.Leaves.{Leaves}
use Rattle.rs_disk.specs.Runs.{RunsWriting}
use Rattle.rs_commit.specs.declared.root.Root.{Root}
use Rattle.rs_commit.specs.declared.slot.Slot.{Slot}
use Rattle.rs_commit.specs.Slots.{Standing, offset, other, current, OpensTo, payload_of, written_version}

-- the bytes after the slots
abbrev pub behind_slots : List ℕ → List ℕ
behind_slots image = drop 1024 image

-- two lists of one size, with the same bytes after the slots
pub record SameBehind (one two : List ℕ) : Type 0 where
  pub size : length one ≡ length two
  pub bytes : behind_slots one ≡ behind_slots two

-- blocks 0 and 1 are settled
abbrev pub AreSettled : Medium → Type 0
AreSettled m = (i : ℕ) → i < 1024 → get_or m.unsettled i false ≡ false

-- The disk has blocks 0 and 1, a read of them gives slots in this state, and both blocks are settled.
pub record IsReady (slots : Standing) (m : Medium) : Type 0 where
  pub room : 1024 ≤ length m.seen
  pub current : current m.seen ≡ Some slots
  pub settled : AreSettled m

-- the root of the next generation, in the version that is written
abbrev pub next : Root → Extent → ℕ → List ℕ → Root
next old directory length sha256 = record { version = written_version; generation = old.generation + 1; directory = directory; length = length; sha256 = sha256 }

-- the bytes of an image after the slots are those of some image at entry
abbrev pub OutsideOf : Medium → List ℕ → Type 0
OutsideOf entry image = (e : List ℕ) × IsImage entry e × SameBehind image e

-- A run that writes within the slots alone: a read gives the bytes after the slots as at entry, and every image at any
-- moment has them as some image at entry. `told`: its answer reports that the device failed.
pub record WritesSlots (told : Type 0) (old new : DiskState) : Type 0 where
  pub writes : RunsWriting told old new
  pub outside : SameBehind new.now.seen old.now.seen
  pub leaves : Leaves old new (λ _. OutsideOf old.now)

-- An image opens to the old root, and its bytes after the slots are those of an image at entry; or it opens to the new
-- one, and these bytes are those that a read gave at entry.
abbrev pub OldOrNew : Medium → Root → Root → List ℕ → Type 0
OldOrNew entry old new image = (OpensTo old image × OutsideOf entry image) ⊎ (OpensTo new image × SameBehind image entry.seen)

-- these bytes, with an open slot that holds a root
abbrev pub with_root : List ℕ → Slot → Root → List ℕ
with_root bytes slot root = over bytes (offset slot) (1 ∷ payload_of root)

-- The result of a successful commit: it replaced the root of `slots` by `new`, and `after` is the state of the slots
-- from then on.
pub record Committed (new : Root) (slots after : Standing) (entry exit : Medium) : Type 0 where
  -- the slots hold the new root
  pub root : after.root ≡ new
  -- the former spare is open and holds it, and all bytes are settled
  pub written : exit ≡ resting (with_root entry.seen (other slots.slot) after.root)
  -- where the slots were ready, every image opens to it,
  pub opens : IsReady slots entry → (image : List ℕ) → IsImage exit image → OpensTo after.root image
  -- and another commit may follow
  pub ready : IsReady slots entry → IsReady after exit
