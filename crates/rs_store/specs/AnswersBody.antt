-- The answers of a source to a request for a body.
use Rattle.std.specs.Prelude.{◌≡◌, ◌⊎◌, ◌↔◌, ◌+◌, ◌/◌, ℕ, false, List, Some, Result, Vec, IfOk, IfErr, IfSome, IsErrOf, IsTrue}
use Rattle.std.specs.Global.{Global}
use Rattle.rs_disk.specs.Medium.{DiskState}
use Rattle.rs_disk.specs.Runs.{RunsReading, CallsAtMost}
use Rattle.rs_model.specs.Names.{value_of}
use Rattle.rs_model.specs.State.{body_of}
use Rattle.rs_model.specs.Step.{is_held}
use Rattle.rs_store.specs.declared.refusal.Refusal.{Refusal}
use Rattle.rs_store.specs.declared.refusal.Refusal.TheVariants.{Closed, NotHeld, Device, Damaged}
use Rattle.rs_store.specs.OnlyReads.{OnlyReads}
use Rattle.rs_store.specs.Shows.{AreAsRecorded, HasItsDigest, IsOfBody}
use Rattle.rs_store.specs.Source.{Stored, state_of}

-- The answer of a source to a request for the body of a name, and the source after it.
-- `reads`, `recorded`: the bytes are the body, if the device has followed the model; from every device they are as
-- recorded.
-- `closed`, `not_held`: these refusals come exactly where their cause is there.
-- `damaged`, `others`: the cause of Damaged, and the set of other refusals.
-- `once`: it reads the body at most once, also a damaged one, in pieces of 262,144 bytes; `unread`: after Closed and
-- NotHeld the source and its disk are unchanged.
-- `runs`: Device comes where a device call failed, and otherwise only where the count of calls is at its last value.
-- `reads_only`: only the counts of the disk change, and the source stays open, also after Device.
pub record AnswersBody {D : Type 0} (device : D → DiskState) (old new : Stored D) (name : List ℕ) (result : Result (Vec ℕ Global) Refusal) : Type 0 where
  pub reads : IfOk result (λ bytes. IsTrue (device new.disk).honest → body_of name (state_of device old) ≡ Some bytes.items)
  pub recorded : IfOk result (λ bytes. IfSome (value_of name (state_of device old).held) (λ held. AreAsRecorded held.entry.facts bytes.items))
  pub closed : IsErrOf result Closed ↔ IsTrue old.is_closed
  pub not_held : IsErrOf result NotHeld ↔ ((old.is_closed ≡ false) × (is_held (state_of device old) name ≡ false))
  pub damaged : IsErrOf result Damaged → IsTrue (device new.disk).honest → IfSome (value_of name (state_of device old).held) (λ held. ¬ HasItsDigest held)
  pub once : IfSome (value_of name (state_of device old).held)
      (λ held. CallsAtMost ((held.entry.facts.length + 262143) / 262144) (device old.disk) (device new.disk))
  pub unread : IsErrOf result Closed ⊎ IsErrOf result NotHeld → new ≡ old
  pub runs : RunsReading (IsErrOf result Device) (device old.disk) (device new.disk)
  pub others : IfErr result IsOfBody
  pub reads_only : OnlyReads device old new
