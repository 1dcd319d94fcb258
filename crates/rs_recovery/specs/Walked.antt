-- Walks of a source: the event of every command by its answer, and its effect.
use Rattle.std.specs.Prelude.{◌≡◌, ◌⊎◌, ℕ, Bool, false, List, [], ◌∷◌, Some, Result, Ok, Err, IsTrue}
use Rattle.rs_disk.specs.Medium.{DiskState, IsImage}
use Rattle.rs_model.specs.State.{Source}
use Rattle.rs_model.specs.Step.{refusal_of}
use Rattle.rs_model.specs.Walk.{walk_of}
use Rattle.rs_model.specs.declared.command.Command.{Command}
use Rattle.rs_model.specs.declared.command.Reply.{Reply}
use Rattle.rs_model.specs.declared.command.Refusal as model
use Rattle.rs_model.specs.declared.event.Event.{Event}
use Rattle.rs_model.specs.declared.event.Event.TheVariants.{Tried, Refused, Stopped}
use Rattle.rs_image.specs.StateOfImage.{StandsFor}
use Rattle.rs_store.specs.Answered.{Answers}
use Rattle.rs_store.specs.Refusals.{named_as}
use Rattle.rs_store.specs.Source.{Stored, Holds}
use Rattle.rs_store.specs.declared.refusal.Refusal.{Refusal}
use Rattle.rs_store.specs.declared.refusal.Refusal.TheVariants.{Closed, Device}

-- the model refuses the command that comes at this moment in this state, by this name
abbrev pub ModelRefuses : Source → Command → ℕ → Refusal → Type 0
ModelRefuses s command now refusal = (reason : model.Refusal) × (refusal_of s command now ≡ Some reason) × (named_as reason ≡ refusal)

-- A refused command was tried if the model refuses it by this name. Otherwise the machine refused it.
abbrev pub RefusalEvents : Source → Command → ℕ → Refusal → List Event → Type 0
RefusalEvents s command now refusal events =
    (ModelRefuses s command now refusal × (events ≡ Tried command now ∷ []))
    ⊎ ((¬ ModelRefuses s command now refusal) × (events ≡ Refused command ∷ []))

-- The event of a command in this state, by its answer. An accepted command was tried. If the device failed, the source
-- stopped within the command, which may or may not have been applied.
abbrev pub CommandEvents : Source → Command → ℕ → Result Reply Refusal → List Event → Type 0
CommandEvents s command now (Ok reply) events = events ≡ Tried command now ∷ []
CommandEvents s command now (Err Device) events = (stands : Bool) × (events ≡ Stopped command now stands ∷ [])
CommandEvents s command now (Err refusal) events = RefusalEvents s command now refusal events

-- The effect of a walk, of events of this kind, on a source that held a state.
-- `held`: if it is open, it holds the state after a walk of this kind.
-- `at_exit`: every image of its disk represents the state after a walk of this kind.
pub record LeavesWalk {D : Type 0} (device : D → DiskState) (s : Source) (AreEvents : List Event → Type 0) (new : Stored D) : Type 0 where
  pub held : new.is_closed ≡ false → (events : List Event) × AreEvents events × Holds device new (walk_of s events)
  pub at_exit : (image : List ℕ) → IsImage (device new.disk).now image → (events : List Event) × AreEvents events × StandsFor image (walk_of s events)

-- A command of a source that holds a state is a walk of its one event.
abbrev pub CommandsMakeWalks : {D : Type 0} → (D → DiskState) → Type 0
CommandsMakeWalks {D} device = (old new : Stored D) (s : Source) (command : Command) (now : ℕ) (result : Result Reply Refusal)
    → Holds device old s → Answers device old new command now result → LeavesWalk device s (CommandEvents s command now result) new

-- A closed source refuses every command by a refusal of the machine, and stays as it was.
abbrev pub ClosedCommandsAreRefused : {D : Type 0} → (D → DiskState) → Type 0
ClosedCommandsAreRefused {D} device = (old new : Stored D) (s : Source) (command : Command) (now : ℕ) (result : Result Reply Refusal)
    → IsTrue old.is_closed → Answers device old new command now result
    → (result ≡ Err Closed) × (new ≡ old) × CommandEvents s command now result (Refused command ∷ [])
