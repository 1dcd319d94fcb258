-- The answers of a source, as its disk saw them.
use Rattle.std.specs.Prelude.{◌≡◌, ℕ, true, false, List, [], ◌∷◌, flat_map, Option, None, Some, Result, Ok, Err}
use Rattle.rs_disk.specs.Medium.{DiskState}
use Rattle.rs_disk.specs.Runs.{Rests}
use Rattle.rs_model.specs.State.{Source}
use Rattle.rs_model.specs.Step.{fold_of}
use Rattle.rs_model.specs.declared.command.Command.{Command}
use Rattle.rs_model.specs.declared.command.Reply.{Reply}
use Rattle.rs_store.specs.declared.refusal.Refusal.{Refusal}
use Rattle.rs_store.specs.declared.running.Ack.{Ack}
use Rattle.rs_store.specs.Source.{Stored, Holds}
use Rattle.rs_store.specs.Counted.{counted_commands}
use Rattle.rs_store.specs.Laws.{AreNotDevice}
use Rattle.rs_store.specs.Runs.{InTurn, Holding, AreAnswered}

-- a command that the source got at a moment, and its answer
pub record AnsweredCommand : Type 0 where
  pub asked : Command × ℕ
  pub ack : Ack

-- the command, if there is one
abbrev pub command_of : Option AnsweredCommand → List (Command × ℕ)
command_of None = []
command_of (Some answered) = answered.asked ∷ []

-- the answer to it, if there is one
abbrev pub ack_of : Option AnsweredCommand → List Ack
ack_of None = []
ack_of (Some answered) = answered.ack ∷ []

-- the reply in an answer, if the command was accepted
abbrev pub reply_in : Result Reply Refusal → List Reply
reply_in (Ok reply) = reply ∷ []
reply_in (Err refusal) = []

-- the replies to the commands that were accepted, in their order
abbrev pub replies_in : List Ack → List Reply
replies_in acks = flat_map (λ a. reply_in a.reply) acks

-- The effect on a source of answering these commands in their turn.
-- `answered`: if it held a state, its disk saw them answered in their order, from that state on.
-- `holds`, `sound`: if it is open at the end, it holds the state after the counted commands, and no answer was Device.
-- So the next commands begin with that state.
-- `closed`: if it was closed, it accepts no command and stays closed, and only the counts of the disk change.
pub record HasAnswered {D : Type 0} (device : D → DiskState) (old : Stored D) (commands : List (Command × ℕ)) (acks : List Ack) (new : Stored D) : Type 0 where
  pub answered : (s : Source) → Holds device old s → AreAnswered (device old.disk) (Holding s) commands acks (device new.disk)
  pub holds : (s : Source) → Holds device old s → new.is_closed ≡ false → Holds device new (fold_of s (counted_commands commands acks))
  pub sound : new.is_closed ≡ false → AreNotDevice acks
  pub closed : old.is_closed ≡ true → (replies_in acks ≡ []) × (new.is_closed ≡ true) × Rests (device old.disk) (device new.disk)

-- The disk sees the commands that are answered in their turn.
abbrev pub TurnsAreSeen : {D : Type 0} → (D → DiskState) → Type 0
TurnsAreSeen {D} device = (old new : Stored D) (commands : List (Command × ℕ)) (acks : List Ack)
    → InTurn device old commands acks new → HasAnswered device old commands acks new
