-- The walk that a script makes.
use Rattle.std.specs.Prelude.{◌≡◌, ℕ, List, [], ◌∷◌, ◌++◌, Some, Result, Ok, Err, IsTrue}
use Rattle.rs_disk.specs.Medium.{DiskState}
use Rattle.rs_model.specs.State.{Source}
use Rattle.rs_model.specs.Walk.{walk_of}
use Rattle.rs_model.specs.declared.command.Command.{Command}
use Rattle.rs_model.specs.declared.event.Event.{Event}
use Rattle.rs_model.specs.declared.event.Event.TheVariants.{Refused, Fetch}
use Rattle.rs_store.specs.Source.{Stored, Holds}
use Rattle.rs_recovery.specs.Walked.{CommandEvents, LeavesWalk}
use Rattle.rs_caps.specs.Answer.{answer}
use Rattle.rs_caps.specs.PathAnswers.{body_path}
use Rattle.rs_caps.specs.Paths.{path_of}
use Rattle.rs_script.specs.declared.refusal.Refusal.{Refusal}
use Rattle.rs_items.specs.declared.item.ItemFault.TheVariants as fault
use Rattle.rs_script.specs.declared.refusal.Refusal.TheVariants as refusals
use Rattle.rs_script.specs.declared.request.Request.{Request}
use Rattle.rs_script.specs.declared.request.Request.TheVariants.{At, Run, Document, Body}
use Rattle.rs_script.specs.Statements.{Statement, IsScript, request_by}
use Rattle.rs_script.specs.Session.{LineOutcome, moment_set, replied, shown, refused}

-- The event of a statement that asks for a command, by its outcome. A refused statement gives the source no command,
-- and has no event. If there was no memory for it, its command is refused.
abbrev pub RunStatementEvents : Source → Command → ℕ → LineOutcome → List Event → Type 0
RunStatementEvents s command now (replied reply) events = CommandEvents s command now (Ok reply) events
RunStatementEvents s command now (refused (refusals.Source refusal)) events = CommandEvents s command now (Err refusal) events
RunStatementEvents s command now (refused (refusals.Line fault.NoMemory)) events = events ≡ Refused command ∷ []
RunStatementEvents s command now outcome events = events ≡ []

-- shown bytes are a fetch, and they are those answered at the path; otherwise there is no fetch
abbrev pub FetchEvents : Source → List ℕ → LineOutcome → List Event → Type 0
FetchEvents s path (shown bytes) events = (answer s path ≡ Some bytes) × (events ≡ Fetch ∷ [])
FetchEvents s path outcome events = events ≡ []

-- the event of a statement with this request, in a state and at a moment, or no event
abbrev pub StatementEvents : Source → ℕ → Result Request Refusal → LineOutcome → List Event → Type 0
StatementEvents s now (Ok (Run command)) outcome events = RunStatementEvents s command now outcome events
StatementEvents s now (Ok (Document doc)) outcome events = FetchEvents s (path_of doc) outcome events
StatementEvents s now (Ok (Body name)) outcome events = FetchEvents s (body_path name) outcome events
StatementEvents s now request outcome events = events ≡ []

-- the moment after a statement with this request
abbrev pub now_after : ℕ → Result Request Refusal → LineOutcome → ℕ
now_after now (Ok (At t)) moment_set = t
now_after now request outcome = now

-- The statements with these outcomes are these events in their order, from a state and a moment on. Every event comes
-- in the state after the events before it.
abbrev pub IsWalkOf : Source → ℕ → List Statement → List LineOutcome → List Event → Type 0
IsWalkOf s now [] [] events = events ≡ []
IsWalkOf s now (statement ∷ statements) (outcome ∷ outcomes) events =
    (here : List Event) × (later : List Event) × (events ≡ here ++ later) × StatementEvents s now (request_by statement) outcome here
    × IsWalkOf (walk_of s here) (now_after now (request_by statement) outcome) statements outcomes later
IsWalkOf s now [] (outcome ∷ outcomes) events = ⊥
IsWalkOf s now (statement ∷ statements) [] events = ⊥

-- the statements of this input are these events
abbrev pub IsScriptWalk : Source → ℕ → List ℕ → List LineOutcome → List Event → Type 0
IsScriptWalk s now input outcomes events =
    (statements : List Statement) × IsScript input statements × IsWalkOf s now statements outcomes events

-- if the source held a state, and its device has followed the model, the script leaves a walk of the events of its
-- statements
abbrev pub ScriptMakesWalk : {D : Type 0} → (D → DiskState) → Stored D → ℕ → List ℕ → List LineOutcome → Stored D → Type 0
ScriptMakesWalk device old now input outcomes new =
    (s : Source) → Holds device old s → IsTrue (device new.disk).honest → LeavesWalk device s (IsScriptWalk s now input outcomes) new
