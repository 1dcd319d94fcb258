-- The answers of a source to a copy to another disk.
use Rattle.std.specs.Prelude.{◌≡◌, ◌⊎◌, ◌↔◌, ◌<◌, ◌≤◌, ◌+◌, ℕ, Bool, false, List, All, Result, IfOk, IsErrAnd, IsTrue}
use Rattle.rs_disk.specs.Medium.{DiskState}
use Rattle.rs_disk.specs.Leaves.{Leaves}
use Rattle.rs_disk.specs.Runs.{Advances, CallsAtMost, HasFailed}
use Rattle.rs_commit.specs.Slots.{written_version}
use Rattle.rs_commit.specs.Commit.{IsReady}
use Rattle.rs_commit.specs.Format.{fresh, IsAsBefore}
use Rattle.rs_catalogue.specs.Catalogue.{records_of}
use Rattle.rs_image.specs.declared.contents.Contents.{Contents}
use Rattle.rs_image.specs.Reach.{blocks_of_disk}
use Rattle.rs_model.specs.State.{Source}
use Rattle.rs_copy.specs.Laying.{LacksCopyRoom}
use Rattle.rs_copy.specs.Copies.{HasItsBody, LiesCopied, NoneOrState, StopsCopying}
use Rattle.rs_copy.specs.declared.faults.CopyFault.{CopyFault}
use Rattle.rs_copy.specs.declared.faults.CopyFault.TheVariants.{TooSmall, Full, Device, Damaged}
use Rattle.rs_store.specs.declared.copying.CopyRefusal.{CopyRefusal}
use Rattle.rs_store.specs.declared.copying.CopyRefusal.TheVariants.{Closed, Fault}
use Rattle.rs_store.specs.OnlyReads.{OnlyReads}
use Rattle.rs_store.specs.Opening.{disk_of}
use Rattle.rs_store.specs.Shows.{HasItsDigest, calls_for_held}
use Rattle.rs_store.specs.Source.{Stored, Holds, state_of}

-- the answer is this refusal
abbrev pub IsRefusal : {E : Type 0} → Result (Stored E) (E × CopyRefusal) → CopyRefusal → Type 0
IsRefusal result refusal = IsErrAnd result (λ refused. refused.1 ≡ refusal)

-- the answer is this fault of the copy
abbrev pub IsFault : {E : Type 0} → Result (Stored E) (E × CopyRefusal) → CopyFault → Type 0
IsFault result fault = IsRefusal result (Fault fault)

-- the answer is one that comes before a call of either disk
abbrev pub IsEarly : {E : Type 0} → Result (Stored E) (E × CopyRefusal) → Type 0
IsEarly result = (IsRefusal result Closed ⊎ IsFault result TooSmall) ⊎ IsFault result Full

-- A copy of these lists lies on a disk of this many bytes as it was laid out, and all its pages are stored.
pub record LiesAsLaidOut {E : Type 0} (size : ℕ) (c : Contents) (copy : Stored E) : Type 0 where
  pub used : List Bool
  pub lies : LiesCopied size c (record { slots = copy.slots; contents = copy.contents; used = used })

-- A copy of these lists was made on a disk of this many bytes.
-- `generation`, `version`: its root has generation 1 and the version that is written.
-- `slots`, `ready`: the root is in the first slot, the second one is closed, and they can be changed.
-- `intact`: every body on the new disk has its recorded SHA-256, with any bytes from the old disk.
-- `lies`: bodies, pages and the directory, in turn, took the lowest runs of their sizes; every list has its own pages
-- of 64 items.
pub record IsCopied {E : Type 0} (other : E → DiskState) (size : ℕ) (c : Contents) (copy : Stored E) : Type 0 where
  pub generation : copy.slots.root.generation ≡ 1
  pub version : copy.slots.root.version ≡ written_version
  pub slots : copy.slots ≡ fresh copy.slots.root
  pub ready : IsReady copy.slots (other copy.disk).now
  pub intact : All (HasItsBody (other copy.disk).now.seen) (records_of copy.contents.catalogue)
  pub lies : LiesAsLaidOut size c copy

-- The reason why a source is not copied to the disk `to`, and the effect of a refusal.
-- `closed`, `too_small`, `full`: the causes of these; `untouched`, `unread`: they leave the new disk, and the source
-- with its own disk, unchanged.
-- `room`: Device and Damaged come only where the new disk has room for the whole copy.
-- `failed`, `sound`: Device comes only where a call of one of the disks failed, and all other answers only where no
-- call failed.
-- `damaged`: a body lacks its recorded SHA-256, if the old disk has followed the model.
pub record RefusesCopy {D E : Type 0} (device : D → DiskState) (other : E → DiskState) (old new : Stored D) (to : E) (result : Result (Stored E) (E × CopyRefusal)) : Type 0 where
  pub closed : IsRefusal result Closed ↔ IsTrue old.is_closed
  pub too_small : IsFault result TooSmall ↔ ((old.is_closed ≡ false) × (blocks_of_disk (other to).size < 16))
  pub full : IsFault result Full → LacksCopyRoom (other to).size old.contents
  pub untouched : IsEarly result → disk_of result ≡ to
  pub unread : IsEarly result → new ≡ old
  pub room : IsFault result Device ⊎ IsFault result Damaged → ¬ LacksCopyRoom (other to).size old.contents
  pub failed : IsFault result Device → HasFailed (device old.disk) (device new.disk) ⊎ HasFailed (other to) (other (disk_of result))
  pub sound : ¬ IsFault result Device
      → ((device new.disk).faults ≡ (device old.disk).faults) × ((other (disk_of result)).faults ≡ (other to).faults)
  pub damaged : IsFault result Damaged → IsTrue (device new.disk).honest → ¬ All (λ held. HasItsDigest held.1) (state_of device old).held

-- Both disks while a source is copied, for any answer.
-- `reads_only`: the source stays open, and only the counts of its disk change. So a stop leaves it as a stop before the
-- copy would have left it.
-- `once`: it reads every body at most once, also a damaged one.
-- `advances`: the new disk keeps its size, and its counts do not fall.
-- `stops`: no call of a disk comes after a failed one of that disk, and at most one call fails.
-- `any_moment`: at any moment every image of the new disk gives no root, or represents the state that the source holds,
-- or is as before the copy, except for the gates of its slots.
-- `settled`: if the new disk had more than three calls, or no call failed, then from its third call on every image of
-- it gives no root, or represents that state.
pub record IsCopying {D E : Type 0} (device : D → DiskState) (other : E → DiskState) (old new : Stored D) (to disk : E) : Type 0 where
  pub reads_only : OnlyReads device old new
  pub once : CallsAtMost (calls_for_held (state_of device old).held) (device old.disk) (device new.disk)
  pub advances : Advances (other to) (other disk)
  pub stops : StopsCopying (record { from = device old.disk; to = other to }) (record { from = device new.disk; to = other disk })
  pub any_moment : (s : Source) → Holds device old s → IsTrue (device new.disk).honest
      → Leaves (other to) (other disk) (λ _ image. NoneOrState s image ⊎ IsAsBefore (other to).now image)
  pub settled : (s : Source) → Holds device old s → IsTrue (device new.disk).honest
      → ((other to).calls + 3 < (other disk).calls) ⊎ ((other disk).faults ≡ (other to).faults)
      → Leaves (other to) (other disk) (λ m image. (other to).calls + 3 ≤ m → NoneOrState s image)

-- The answer of a source that is copied to the disk `to`, and both disks afterwards.
-- `refuses`: the causes of all refusals, and their effects.
-- `made`: after Ok, the layout of the copy on the new disk; `holds`: the copy holds the state that this source held.
-- `meanwhile`: the effect of a stop on both disks.
pub record AnswersCopy {D E : Type 0} (device : D → DiskState) (other : E → DiskState) (old new : Stored D) (to : E) (result : Result (Stored E) (E × CopyRefusal)) : Type 0 where
  pub refuses : RefusesCopy device other old new to result
  pub made : IfOk result (IsCopied other (other to).size old.contents)
  pub holds : (s : Source) → Holds device old s → IsTrue (device new.disk).honest → IfOk result (λ copy. Holds other copy s)
  pub meanwhile : IsCopying device other old new to (disk_of result)
