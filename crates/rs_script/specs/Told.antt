-- The outcomes that a script reports for its statements, and the commands that its source got for them.
use Rattle.std.specs.Prelude.{◌≡◌, ℕ, List, [], ◌∷◌, ◌++◌, map, flat_map, All, IsTrue, Option, Some, None, Result, Ok}
use Rattle.std.specs.Io.KnownBytes.{Appends}
use Rattle.rs_disk.specs.Medium.{DiskState}
use Rattle.rs_io.specs.Watch.{watched, Ends}
use Rattle.rs_model.specs.State.{Source}
use Rattle.rs_model.specs.declared.command.Command.{Command}
use Rattle.rs_model.specs.declared.command.Reply.{Reply}
use Rattle.rs_record.specs.Name.{is_name}
use Rattle.rs_store.specs.declared.running.Ack.{Ack}
use Rattle.rs_store.specs.Runs.{InTurn}
use Rattle.rs_store.specs.Source.{Stored, Holds}
use Rattle.rs_recovery.specs.Replies.{AnsweredCommand, command_of, ack_of}
use Rattle.rs_script.specs.declared.refusal.Refusal.{Refusal}
use Rattle.rs_script.specs.declared.request.Request.{Request}
use Rattle.rs_script.specs.declared.request.Request.TheVariants.{At, Run, Document, Body, Status, Verify}
use Rattle.rs_script.specs.Answers.{output_of}
use Rattle.rs_script.specs.Finished.{bytes_of}
use Rattle.rs_script.specs.Outcomes.{outcome_of_reply}
use Rattle.rs_script.specs.Progress.{Came}
use Rattle.rs_script.specs.Script.{ScriptGives}
use Rattle.rs_script.specs.Session.{ScriptState, LineOutcome, moment_set, replied, shown, counted, verified, refused}
use Rattle.rs_script.specs.Statements.{Statement, request_by, IsScript}

-- the reply in the outcome of a statement, if the source accepted a command
abbrev pub line_reply : LineOutcome → List Reply
line_reply (replied reply) = reply ∷ []
line_reply outcome = []

-- the names in the outcome of a statement are lawful
abbrev pub NamesAreLawful : LineOutcome → Type 0
NamesAreLawful (verified names sound) = All (λ name. IsTrue (is_name name)) names
NamesAreLawful outcome = Unit {0}

-- A statement that is done, the command that the source got for it, if it got one, and the reported outcome.
pub record DoneStatement : Type 0 where
  pub statement : Statement
  pub got : Option AnsweredCommand
  pub outcome : LineOutcome

-- Without a command a request is refused, or gets the requested moment, bytes, counts or names, but no reply.
abbrev pub IsOwnOutcome : Result Request Refusal → LineOutcome → Type 0
IsOwnOutcome request (refused refusal) = Unit {0}
IsOwnOutcome (Ok (At t)) moment_set = Unit {0}
IsOwnOutcome (Ok (Document doc)) (shown bytes) = Unit {0}
IsOwnOutcome (Ok (Body name)) (shown bytes) = Unit {0}
IsOwnOutcome (Ok Status) (counted status) = Unit {0}
IsOwnOutcome (Ok Verify) (verified names sound) = Unit {0}
IsOwnOutcome request outcome = ⊥

-- If the source got a command for a statement, the statement asks for this command, which came at the moment of the
-- script, and its answer is the outcome. If the source got no command, the outcome is the statement's own.
abbrev pub IsStatementOutcome : Result Request Refusal → ℕ → Option AnsweredCommand → LineOutcome → Type 0
IsStatementOutcome request now None outcome = IsOwnOutcome request outcome
IsStatementOutcome request now (Some got) outcome = (request ≡ Ok (Run got.asked.0)) × (got.asked.1 ≡ now) × (outcome ≡ outcome_of_reply got.ack.reply)

-- the moment of a script after a statement with this outcome
abbrev pub moment_behind : Result Request Refusal → ℕ → LineOutcome → ℕ
moment_behind (Ok (At t)) now moment_set = t
moment_behind request now outcome = now

-- statements are done one after another, the first of them at this moment
abbrev pub AreDone : ℕ → List DoneStatement → Type 0
AreDone now [] = Unit {0}
AreDone now (d ∷ done) =
    IsStatementOutcome (request_by d.statement) now d.got d.outcome × AreDone (moment_behind (request_by d.statement) now d.outcome) done

abbrev pub statements_of : List DoneStatement → List Statement
statements_of done = map (λ d. d.statement) done

abbrev pub outcomes_of : List DoneStatement → List LineOutcome
outcomes_of done = map (λ d. d.outcome) done

-- the commands that the source got for these statements, in their order
abbrev pub commands_of : List DoneStatement → List (Command × ℕ)
commands_of done = flat_map (λ d. command_of d.got) done

-- the answers to them
abbrev pub acks_of : List DoneStatement → List Ack
acks_of done = flat_map (λ d. ack_of d.got) done

-- Statements of a script are done, and their outcomes were written, the last of them perhaps in part.
-- `input`, `came`, `cut`: the part of the script that came has exactly these statements, each of them once.
-- `in_turn`, `done_so`: the source got at most one command for each statement, the one that it asks for, and answered
-- these commands in their order, and no others. Every answer is the reported outcome. This holds on every disk, also on
-- one whose last sync fails.
-- `named`: if the source held a state, and its device has followed the model, every reported name is lawful. So it has
-- no line feed, and passes for no reply.
pub record TellsStatements {D : Type 0} (device : D → DiskState) (old new : Stored D) (ends : Ends) : Type 0 where
  pub done : List DoneStatement
  pub input : List ℕ
  pub came : Came bytes_of ends.left ends.rest input
  pub cut : IsScript input (statements_of done)
  pub done_so : AreDone 0 done
  pub in_turn : InTurn device old (commands_of done) (acks_of done) new
  pub named : (s : Source) → Holds device old s → IsTrue (device new.disk).honest → All NamesAreLawful (outcomes_of done)
  pub part : List ℕ
  pub left_out : List ℕ
  pub bytes_are : part ++ left_out ≡ output_of (outcomes_of done)
  pub took : Appends (watched ends.before) (watched ends.after) part

-- The statements of this input are done from a moment on, with these outcomes.
pub record DoesStatements {D : Type 0} (device : D → DiskState) (old new : Stored D) (input : List ℕ) (now : ℕ) (outcomes : List LineOutcome) : Type 0 where
  pub done : List DoneStatement
  pub cut : IsScript input (statements_of done)
  pub done_so : AreDone now done
  pub in_turn : InTurn device old (commands_of done) (acks_of done) new
  pub outcomes_are : outcomes_of done ≡ outcomes

-- a script does the statements of its input, each of them once
abbrev pub ScriptsDoStatements : {D : Type 0} → (D → DiskState) → Type 0
ScriptsDoStatements {D} device = (old new : ScriptState (Stored D)) (input : List ℕ) (outcomes : List LineOutcome) (commands : List (Command × ℕ))
    → ScriptGives device old input outcomes commands new → DoesStatements device old.source new.source input old.now outcomes

-- the names that a script reports are lawful, if its source held a state and the device has followed the model
abbrev pub ScriptsTellNames : {D : Type 0} → (D → DiskState) → Type 0
ScriptsTellNames {D} device = (old new : ScriptState (Stored D)) (input : List ℕ) (outcomes : List LineOutcome) (commands : List (Command × ℕ))
    → ScriptGives device old input outcomes commands new → (s : Source) → Holds device old.source s → IsTrue (device new.source.disk).honest
    → All NamesAreLawful outcomes
