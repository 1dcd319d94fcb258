-- The answers of a script when the disk stops within it.
use Rattle.std.specs.Prelude.{◌≡◌, ◌≤◌, ℕ, nat_le, if◌then◌else◌, List, [], ◌∷◌, ◌++◌, length, flat_map}
use Rattle.rs_disk.specs.Medium.{DiskState}
use Rattle.rs_disk.specs.Leaves.{Leaves}
use Rattle.rs_model.specs.State.{Source}
use Rattle.rs_model.specs.declared.command.Command.{Command}
use Rattle.rs_model.specs.declared.command.Reply.{Reply}
use Rattle.rs_store.specs.declared.running.Ack.{Ack}
use Rattle.rs_store.specs.Source.{Stored, Holds}
use Rattle.rs_store.specs.Runs.{StandsForPrefix}
use Rattle.rs_recovery.specs.Replies.{reply_in, HasAnswered}
use Rattle.rs_script.specs.Session.{LineOutcome, replied}
use Rattle.rs_script.specs.Told.{line_reply, DoneStatement, AreDone, commands_of, acks_of, outcomes_of}

-- the replies to the commands that were accepted and acknowledged at a count of m calls, in their order
abbrev pub replies_by : ℕ → List Ack → List Reply
replies_by m [] = []
replies_by m (a ∷ acks) = (if nat_le a.at_call m then reply_in a.reply else []) ++ replies_by m acks

-- the first of these outcomes is a reply, or there is no outcome
abbrev pub BeginsWithReply : List LineOutcome → Type 0
BeginsWithReply [] = Unit {0}
BeginsWithReply (outcome ∷ outcomes) = (reply : Reply) × (outcome ≡ replied reply)

-- The disk of a script stopped after m calls and left this image. Its commands have these answers, and its statements
-- these outcomes.
-- `first`, `later`, `next`: the outcomes before the first reply that was not acknowledged then, and all from that one
-- on. Only the answers to the first ones may have been written by then. (No clause orders the calls of the writer and
-- those of the disk. But a reply that is written before its commit would be false if the last sync fails, and `in_turn`
-- of `TellsStatements` holds there too. The order itself is tested.)
-- `by_then`: the replies in these answers are exactly those that were acknowledged then.
-- `kept`, `each_kept`: the image represents the state after the first counted commands, which include every command
-- with a reply in these answers.
pub record SplitAtStop (s : Source) (commands : List (Command × ℕ)) (acks : List Ack) (outcomes : List LineOutcome) (m : ℕ) (image : List ℕ) : Type 0 where
  pub first : List LineOutcome
  pub later : List LineOutcome
  pub outcomes_are : outcomes ≡ first ++ later
  pub next : BeginsWithReply later
  pub by_then : flat_map line_reply first ≡ replies_by m acks
  pub kept : StandsForPrefix s commands acks m image
  pub each_kept : length (flat_map line_reply first) ≤ kept.j

-- A script did these statements, and its source held a state. Every stop meanwhile splits their outcomes.
abbrev pub ScriptsSplit : {D : Type 0} → (D → DiskState) → Type 0
ScriptsSplit {D} device = (old new : Stored D) (done : List DoneStatement) (s : Source)
    → AreDone 0 done → HasAnswered device old (commands_of done) (acks_of done) new → Holds device old s
    → Leaves (device old.disk) (device new.disk) (SplitAtStop s (commands_of done) (acks_of done) (outcomes_of done))
