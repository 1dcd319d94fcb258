-- How commands change the state of a source.
use Rattle.std.specs.Prelude.{◌≡◌, ◌≤◌, ℕ, false, List, [], length, All, None}
use Rattle.rs_disk.specs.Medium.{DiskState}
use Rattle.rs_model.specs.State.{Source}
use Rattle.rs_model.specs.Step.{refusal_of, fold_of}
use Rattle.rs_model.specs.declared.command.Command.{Command}
use Rattle.rs_store.specs.Source.{Stored, Holds, state_of}

-- A source did these commands in their order, at their moments. If it is open, it was open before, its lists determine
-- the state after the commands from their earlier state, and it holds the state after the commands from the state that
-- it held.
pub record GoesOnBy {D : Type 0} (device : D → DiskState) (old new : Stored D) (commands : List (Command × ℕ)) : Type 0 where
  pub opened : new.is_closed ≡ false → old.is_closed ≡ false
  pub tells : new.is_closed ≡ false → state_of device new ≡ fold_of (state_of device old) commands
  pub holds : (s : Source) → Holds device old s → new.is_closed ≡ false → Holds device new (fold_of s commands)

-- A source did at most one command, which came at this moment and which the model accepts. Without a command it is as
-- open or closed as before.
pub record GoesOnOnce {D : Type 0} (device : D → DiskState) (old : Stored D) (now : ℕ) (new : Stored D) : Type 0 where
  pub commands : List (Command × ℕ)
  pub few : length commands ≤ 1
  pub came : All (λ command. command.1 ≡ now) commands
  pub accepted : All (λ command. refusal_of (state_of device old) command.0 command.1 ≡ None) commands
  pub goes_on : GoesOnBy device old new commands
  pub kept : commands ≡ [] → new.is_closed ≡ old.is_closed
