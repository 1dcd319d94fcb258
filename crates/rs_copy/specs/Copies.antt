-- A copy of a source, and the effect of copying on both disks.
use Rattle.std.specs.Prelude.{◌≡◌, ◌⊎◌, ◌↔◌, ◌<◌, ◌≤◌, ◌+◌, ◌/◌, ℕ, List, All, None, Result, IfOk, IsErrOf, IsTrue, sum_by}
use Rattle.rs_disk.specs.Medium.{DiskState, IsImage}
use Rattle.rs_disk.specs.Leaves.{Leaves}
use Rattle.rs_disk.specs.Runs.{Advances, CallsAtMost, HasFailed, Rests, StopsAtFault}
use Rattle.rs_fixity.specs.Digests.{digests}
use Rattle.rs_record.specs.declared.record.Record.{Record}
use Rattle.rs_body.specs.Blocks.{part}
use Rattle.rs_commit.specs.Commit.{IsReady}
use Rattle.rs_commit.specs.Slots.{current, written_version}
use Rattle.rs_commit.specs.Format.{fresh, IsAsBefore}
use Rattle.rs_catalogue.specs.Catalogue.{records_of}
use Rattle.rs_model.specs.State.{Source}
use Rattle.rs_image.specs.declared.contents.Contents.{Contents}
use Rattle.rs_image.specs.Reach.{blocks_of_disk}
use Rattle.rs_image.specs.Rooted.{Rooted, rooted, MemoryIsSound}
use Rattle.rs_image.specs.StateOfImage.{Tells, StandsFor}
use Rattle.rs_copy.specs.declared.faults.CopyFault.{CopyFault}
use Rattle.rs_copy.specs.declared.faults.CopyFault.TheVariants.{TooSmall, Full, Device, Damaged}
use Rattle.rs_copy.specs.declared.copying.Copied.{Copied}
use Rattle.rs_copy.specs.Laying.{IsLaidOut, LacksCopyRoom, all_stored}

-- the first bytes of a record's extent have its SHA-256
abbrev pub HasItsBody : List ℕ → Record → Type 0
HasItsBody image r = (digests (part r.extent r.length image)).sha256 ≡ r.digests.sha256

-- the calls that read a body of n bytes once, in pieces of 16,384 bytes
abbrev pub calls_to_read : ℕ → ℕ
calls_to_read n = (n + 16383) / 16384

-- the calls that read every body of these records once
abbrev pub calls_for : List Record → ℕ
calls_for rs = sum_by (λ r. calls_to_read r.length) rs

-- A copy on a disk: its root has generation 1 and the version that is written, the slots can be changed, memory is
-- sound, and every body has its SHA-256.
pub record StandsCopied (disk : DiskState) (copied : Copied) : Type 0 where
  pub slots : copied.slots ≡ fresh copied.slots.root
  pub generation : copied.slots.root.generation ≡ 1
  pub version : copied.slots.root.version ≡ written_version
  pub ready : IsReady copied.slots disk.now
  pub sound : MemoryIsSound (rooted disk.size copied.slots.root copied.contents) copied.used
  pub intact : All (HasItsBody disk.now.seen) (records_of copied.contents.catalogue)

-- A copy of these lists lies on a disk of this many bytes as it was laid out, and all its pages are stored.
pub record LiesCopied (size : ℕ) (c : Contents) (copied : Copied) : Type 0 where
  pub placed : Contents
  pub laid_out : IsLaidOut size c placed copied.slots.root.directory copied.used
  pub contents : copied.contents ≡ all_stored placed

-- The two disks of a copy at one moment: the disk that is read, and the disk that is written.
pub record Disks : Type 0 where
  pub from : DiskState
  pub to : DiskState

-- In a run of calls of both disks, no call of a disk follows a failed call of that disk, and at most one call of both
-- fails.
pub record StopsCopying (old new : Disks) : Type 0 where
  pub from : StopsAtFault old.from new.from
  pub to : StopsAtFault old.to new.to
  pub one : old.from.faults < new.from.faults → new.to.faults ≡ old.to.faults

-- an image has no root, or represents the state
abbrev pub NoneOrState : Source → List ℕ → Type 0
NoneOrState s image = (current image ≡ None) ⊎ StandsFor image s

-- The effect of copying a root's source on both disks, from the moment `old` to the moment `new`.
-- `rests`, `once`: it only reads the first disk, and every body at most once, also a damaged one; `advances`: the
-- second disk keeps its size, and its counts do not fall.
-- `too_small`, `full`: the causes of these answers; `untouched`: they come before a call of either disk.
-- `room`: Device and Damaged come only if the second disk has room for the whole copy.
-- `failed`, `sound`: Device comes only if a call of one of the disks failed, and any other answer only if no call
-- failed.
-- `stops`: no call of a disk follows a failed call of that disk, and at most one call fails.
-- `damaged`: a body lacks its recorded SHA-256, if the first disk has followed the model.
-- `copied`, `lies`: the copy that Ok leaves; `holds`: then the copied root determines, in every image of the second
-- disk, the state that the old root determined on the first disk.
-- `any_moment`: at any moment every image of the second disk has no root, or represents that state, or is as before the
-- copy except for the gates of its slots.
-- `settled`: if the second disk had more than three calls, or no failed call, then from its third call on every image
-- of it has no root, or represents that state.
pub record Copies (root : Rooted) (old new : Disks) (result : Result Copied CopyFault) : Type 0 where
  pub rests : Rests old.from new.from
  pub once : CallsAtMost (calls_for (records_of root.contents.catalogue)) old.from new.from
  pub advances : Advances old.to new.to
  pub too_small : IsErrOf result TooSmall ↔ (blocks_of_disk old.to.size < 16)
  pub full : IsErrOf result Full → LacksCopyRoom old.to.size root.contents
  pub untouched : IsErrOf result TooSmall ⊎ IsErrOf result Full → new ≡ old
  pub room : IsErrOf result Device ⊎ IsErrOf result Damaged → ¬ LacksCopyRoom old.to.size root.contents
  pub failed : IsErrOf result Device → HasFailed old.from new.from ⊎ HasFailed old.to new.to
  pub sound : ¬ IsErrOf result Device → (new.from.faults ≡ old.from.faults) × (new.to.faults ≡ old.to.faults)
  pub stops : StopsCopying old new
  pub damaged : IsErrOf result Damaged → IsTrue new.from.honest
      → ¬ All (HasItsBody old.from.now.seen) (records_of root.contents.catalogue)
  pub copied : IfOk result (StandsCopied new.to)
  pub lies : IfOk result (LiesCopied old.to.size root.contents)
  pub holds : (s : Source) → IsTrue new.from.honest → Tells root.root root.contents old.from.now.seen s
      → IfOk result (λ copied. (image : List ℕ) → IsImage new.to.now image → Tells copied.slots.root copied.contents image s)
  pub any_moment : (s : Source) → IsTrue new.from.honest → Tells root.root root.contents old.from.now.seen s
      → Leaves old.to new.to (λ _ image. NoneOrState s image ⊎ IsAsBefore old.to.now image)
  pub settled : (s : Source) → IsTrue new.from.honest → Tells root.root root.contents old.from.now.seen s
      → (old.to.calls + 3 < new.to.calls) ⊎ (new.to.faults ≡ old.to.faults)
      → Leaves old.to new.to (λ m image. old.to.calls + 3 ≤ m → NoneOrState s image)
