-- The answers of a source to commands.
use Rattle.std.specs.Prelude.{◌≡◌, ◌+◌, ℕ, true, Option, Some, None, Result, Ok, Err, IfOk, IsErrOf, IsTrue}
use Rattle.rs_disk.specs.Runs.{RunsWriting}
use Rattle.rs_disk.specs.Medium.{DiskState}
use Rattle.rs_commit.specs.Slots.{written_version}
use Rattle.rs_model.specs.State.{Source}
use Rattle.rs_model.specs.Step.{step, moment_at}
use Rattle.rs_model.specs.declared.command.Command.{Command}
use Rattle.rs_model.specs.declared.command.Reply.{Reply}
use Rattle.rs_store.specs.declared.refusal.Refusal.{Refusal}
use Rattle.rs_plan.specs.declared.plan.Plan.{Plan}
use Rattle.rs_plan.specs.Plans.{once_stored, planned_root, IsPlanned}
use Rattle.rs_store.specs.declared.refusal.Refusal.TheVariants.{Closed, Full, Device}
use Rattle.rs_store.specs.Source.{Stored, Holds, rooted_in, state_of}
use Rattle.rs_store.specs.Refusals.{decided}
use Rattle.rs_store.specs.Commands.{IsCause, Leads}

-- a moment, unless there is a refusal
abbrev pub moment_unless : Option Refusal → ℕ → Result ℕ Refusal
moment_unless None moment = Ok moment
moment_unless (Some refusal) moment = Err refusal

-- The memory is unchanged, and determines the same state.
pub record IsUnchanged {D : Type 0} (device : D → DiskState) (old new : Stored D) : Type 0 where
  pub slots : new.slots ≡ old.slots
  pub contents : new.contents ≡ old.contents
  pub state : state_of device new ≡ state_of device old

-- A command was carried out by its plan: the lists are those of the plan, stored in the places that it gives them, and
-- the root is the next one. So a page that the plan does not touch keeps its items, its extent and its digest.
pub record IsCarriedOut {D : Type 0} (device : D → DiskState) (old new : Stored D) (command : Command) (now : ℕ) : Type 0 where
  pub plan : Plan
  pub planned : IsPlanned (rooted_in device old) command (moment_at (state_of device old) now) plan
  pub contents : new.contents ≡ once_stored plan.contents
  pub root : new.slots.root ≡ planned_root old.slots.root plan

-- The answer of a source to a command that comes at `now`, and the source after it.
-- `decides`, `untouched`: it answers a refusal that needs neither memory nor the disk, and nothing changes.
-- `full`: Full leaves the source unchanged, and comes before any write or call.
-- `refused`: every refusal has its cause.
-- `accepted`: Ok is the model's step of the state that the lists determine, with its reply.
-- `planned`: an accepted command is carried out by its plan, so the rules determine pages and places.
-- `generation`, `version`: an accepted command takes one generation of the root, and gives the root the version that is
-- written.
-- `leads`: if the source held a state, the state that it holds afterwards, and the states of all images of a crash
-- meanwhile.
-- `runs`: it answers Device only where a device call failed or the count of calls is at its last value, and all other
-- answers only where no call failed. It makes no call after a failed one. The disk keeps its size, and its counts do
-- not fall.
-- `closed`: a closed source answers Closed, and nothing changes.
-- `closes`, `stays_open`: Device closes the source, and no other answer does.
-- `unchanged`: all other refusals leave the memory unchanged.
pub record Answers {D : Type 0} (device : D → DiskState) (old new : Stored D) (command : Command) (now : ℕ) (result : Result Reply Refusal) : Type 0 where
  pub decides : (r : Refusal) → decided old (state_of device old) command now ≡ Some r → result ≡ Err r
  pub untouched : (r : Refusal) → decided old (state_of device old) command now ≡ Some r → new ≡ old
  pub full : IsErrOf result Full → new ≡ old
  pub refused : (r : Refusal) → IsErrOf result r → IsCause device old new command now r
  pub accepted : IfOk result (λ reply. step (state_of device old) command now ≡ Ok (state_of device new, reply))
  pub planned : IfOk result (λ _. IsCarriedOut device old new command now)
  pub generation : IfOk result (λ _. new.slots.root.generation ≡ old.slots.root.generation + 1)
  pub version : IfOk result (λ _. new.slots.root.version ≡ written_version)
  pub leads : (s : Source) → Holds device old s → Leads device old new s (step s command now) result
  pub runs : RunsWriting (IsErrOf result Device) (device old.disk) (device new.disk)
  pub closed : IsTrue old.is_closed → (result ≡ Err Closed) × (new ≡ old)
  pub closes : IsErrOf result Device → new.is_closed ≡ true
  pub stays_open : (IsErrOf result Device → ⊥) → new.is_closed ≡ old.is_closed
  pub unchanged : (r : Refusal) → IsErrOf result r → (r ≡ Device → ⊥) → IsUnchanged device old new
