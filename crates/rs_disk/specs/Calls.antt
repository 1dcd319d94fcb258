-- The changes that a call of a disk makes to its state.
use Rattle.std.specs.Prelude.{◌≡◌, ◌⊎◌, ℕ, ◌+◌, ◌<◌, ◌≤◌, ◌^◌, true, false, List, length, Result, OnOk, OnErr, IsErr, IsTrue}
use Rattle.rs_disk.specs.Medium.{Medium, DiskState, widened, written, resting}

-- Facts about a call of any device: the size stays, no call makes a device honest again, and the call is counted, as a
-- fault too if it fails, and the state keeps whether the last counted call failed. Where the count of calls has reached
-- its last value, a further call answers an error and changes no part of the state.
pub record CountsCall {T E : Type 0} (old new : DiskState) (result : Result T E) : Type 0 where
  pub size : new.size ≡ old.size
  pub lasts : IsTrue new.honest → IsTrue old.honest
  pub spent : 2 ^ 64 ≤ old.calls + 1 → (new ≡ old) × IsErr result
  pub calls : old.calls + 1 < 2 ^ 64 → new.calls ≡ old.calls + 1
  pub ok : OnOk result (new.faults ≡ old.faults)
  pub fault : OnErr result (old.calls + 1 < 2 ^ 64 → new.faults ≡ old.faults + 1)
  pub worked : OnOk result (new.last_failed ≡ false)
  pub failed : OnErr result (old.calls + 1 < 2 ^ 64 → new.last_failed ≡ true)

-- The content of the disk within earlier calls stays, and within this one, if it was counted, the content was `held`.
pub record Passes (old new : DiskState) (held : Medium) : Type 0 where
  pub past : (m : ℕ) → m < old.calls → new.within m ≡ old.within m
  pub this : old.calls < new.calls → new.within old.calls ≡ held

-- A call that leaves the content as it was: a read, or a sync that failed.
pub record Stays (old new : DiskState) : Type 0 where
  pub now : new.now ≡ old.now
  pub passes : Passes old new old.now

-- A write of these bytes: within it its range is unsettled, and after it they are written.
pub record Writes (at : ℕ) (bytes : List ℕ) (old new : DiskState) : Type 0 where
  pub now : new.now ≡ written old.now at bytes
  pub passes : Passes old new (widened old.now at (length bytes))

-- A write of n bytes that failed and left the content as before: within it its range was unsettled, or it had not
-- begun.
pub record Refuses (at n : ℕ) (old new : DiskState) : Type 0 where
  pub now : new.now ≡ old.now
  pub passes : Passes old new old.now ⊎ Passes old new (widened old.now at n)

-- A write of n bytes that failed: any bytes are written in its range, or the content is as before.
abbrev pub Tears : ℕ → ℕ → DiskState → DiskState → Type 0
Tears at n old new = ((any : List ℕ) × (length any ≡ n) × Writes at any old new) ⊎ Refuses at n old new

-- A sync that succeeded: the bytes that a read returns are settled, and no place is unsettled.
pub record Settles (old new : DiskState) : Type 0 where
  pub now : new.now ≡ resting old.now.seen
  pub passes : Passes old new old.now
