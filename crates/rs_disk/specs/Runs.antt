-- Facts about any run of device calls: the disk's size, its honesty and its counts. `told` is the claim that the run's
-- answer reports a failure of the device.
use Rattle.std.specs.Prelude.{◌≡◌, ◌⊎◌, ℕ, ◌+◌, ◌<◌, ◌≤◌, ◌^◌, true, IsTrue}
use Rattle.rs_disk.specs.Medium.{DiskState, IsImage}
use Rattle.rs_disk.specs.Leaves.{Leaves, Torn, TornFrom}

-- a call of the device failed in between, or the count of calls has reached its last value
abbrev pub HasFailed : DiskState → DiskState → Type 0
HasFailed old new = (old.faults < new.faults) ⊎ (2 ^ 64 ≤ new.calls + 1)

-- A run of calls of any device. The size stays, the counts do not fall, and no call makes the device honest again. The
-- answer reports a failure only where a call failed, or the count of calls has reached its last value. Where it reports
-- no failure, no call failed.
pub record Runs (told : Type 0) (old new : DiskState) : Type 0 where
  pub size : new.size ≡ old.size
  pub lasts : IsTrue new.honest → IsTrue old.honest
  pub calls : old.calls ≤ new.calls
  pub faults : old.faults ≤ new.faults
  pub failed : told → HasFailed old new
  pub sound : ¬ told → new.faults ≡ old.faults

-- A run makes no call after a failed one: of its counted calls at most one failed, and a failed call was the last.
pub record StopsAtFault (old new : DiskState) : Type 0 where
  pub one : new.faults ≤ old.faults + 1
  pub last : old.faults < new.faults → new.last_failed ≡ true

-- If a call of the run from `old` to `mid` failed, the state stays as it is at `mid`.
abbrev pub GoesNoFurther : DiskState → DiskState → DiskState → Type 0
GoesNoFurther old mid new = old.faults < mid.faults → new ≡ mid

-- A run that writes and syncs, and ignores the bytes that a read returns: the device is as honest as it was. It stops
-- at a fault.
pub record RunsWriting (told : Type 0) (old new : DiskState) : Type 0 where
  pub runs : Runs told old new
  pub keeps : new.honest ≡ old.honest
  pub stops : StopsAtFault old new

-- A run that changes only the counts: at every m all images are images of the disk's content. It stops at a fault.
pub record RunsReading (told : Type 0) (old new : DiskState) : Type 0 where
  pub runs : Runs told old new
  pub now : new.now ≡ old.now
  pub leaves : Leaves old new (λ _. IsImage old.now)
  pub stops : StopsAtFault old new

-- Any calls that write and sync, where the bytes that a read returns are ignored: the size stays, the device is as
-- honest as it was, and the counts do not fall.
pub record Advances (old new : DiskState) : Type 0 where
  pub size : new.size ≡ old.size
  pub keeps : new.honest ≡ old.honest
  pub calls : old.calls ≤ new.calls
  pub faults : old.faults ≤ new.faults

-- Any calls that read: they change only the counts, which do not fall, at every m all images are images of the disk's
-- content, and no call makes the device honest again. They may go on after a fault.
pub record Rests (old new : DiskState) : Type 0 where
  pub size : new.size ≡ old.size
  pub lasts : IsTrue new.honest → IsTrue old.honest
  pub calls : old.calls ≤ new.calls
  pub faults : old.faults ≤ new.faults
  pub now : new.now ≡ old.now
  pub leaves : Leaves old new (λ _. IsImage old.now)

-- A run that writes no bytes, though it may settle: a read returns the same bytes as before, and at every m all images
-- are images of the entry. It stops at a fault.
pub record WritesNothing (told : Type 0) (old new : DiskState) : Type 0 where
  pub runs : Runs told old new
  pub seen : new.now.seen ≡ old.now.seen
  pub leaves : Leaves old new (λ _. IsImage old.now)
  pub stops : StopsAtFault old new

-- A run that writes n bytes from an offset on, or a part of them, and no other bytes: outside them a read returns the
-- same bytes as before, and at every m all images are images of the entry with any bytes in their place.
pub record WritesWithin (at n : ℕ) (told : Type 0) (old new : DiskState) : Type 0 where
  pub writes : RunsWriting told old new
  pub torn : Torn at n old.now.seen new.now.seen
  pub leaves : Leaves old new (λ _. TornFrom old.now at n)

-- a run makes at most n calls
abbrev pub CallsAtMost : ℕ → DiskState → DiskState → Type 0
CallsAtMost n old new = new.calls ≤ old.calls + n

-- A run makes n calls where no call fails. It makes fewer where its answer reports a failure and yet no call failed:
-- the count of calls had reached its last value.
pub record MakesCalls (n : ℕ) (told : Type 0) (old new : DiskState) : Type 0 where
  pub most : CallsAtMost n old new
  pub all : ¬ told → new.calls ≡ old.calls + n
  pub cut_short : told → new.faults ≡ old.faults → new.calls < old.calls + n
