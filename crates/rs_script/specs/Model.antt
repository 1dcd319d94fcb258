-- The answers of the model to the statements of a script.
use Rattle.std.specs.Prelude.{ℕ, nat_lt, if◌then◌else◌, List, [], ◌∷◌, length, Option, Some, None, Result, Ok, Err}
use Rattle.std.specs.List.{filter}
use Rattle.rs_model.specs.State.{Source, body_of}
use Rattle.rs_model.specs.Step.{step}
use Rattle.rs_model.specs.declared.command.Command.{Command}
use Rattle.rs_model.specs.declared.command.Reply.{Reply}
use Rattle.rs_model.specs.declared.command.Refusal as model
use Rattle.rs_store.specs.Refusals.{named_as}
use Rattle.rs_store.specs.Shows.{status_of}
use Rattle.rs_store.specs.Verified.{is_sound, damaged_names}
use Rattle.rs_store.specs.declared.refusal.Refusal.TheVariants.{NotHeld}
use Rattle.rs_script.specs.declared.refusal.Refusal.{Refusal}
use Rattle.rs_script.specs.declared.refusal.Refusal.TheVariants as refusals
use Rattle.rs_script.specs.declared.request.Request.{Request}
use Rattle.rs_script.specs.declared.request.Request.TheVariants.{At, Run, Document, Body, Status, Verify}
use Rattle.rs_caps.specs.DocumentTexts.{document_text}
use Rattle.rs_caps.specs.Shows.{shown_of}
use Rattle.rs_script.specs.Lines.{line_limit}
use Rattle.rs_script.specs.Requests.{request_of}
use Rattle.rs_script.specs.Statements.{Statement, single, grouped, cut_off, request_by}
use Rattle.rs_script.specs.Session.{ScriptState, LineOutcome, moment_set, replied, shown, counted, verified, refused, Answer, unchanged}

-- the answer to a command, which was accepted or refused
abbrev pub stepped : ScriptState Source → Command → Result (Source × Reply) model.Refusal → Answer Source
stepped s command (Ok next) =
    record { outcome = replied next.1; commands = (command, s.now) ∷ []; session = record { source = next.0; now = s.now } }
stepped s command (Err refusal) = unchanged s (refused (refusals.Source (named_as refusal)))

-- these bytes, or the refusal if there are no bytes
abbrev pub shown_or : Refusal → Option (List ℕ) → LineOutcome
shown_or refusal None = refused refusal
shown_or refusal (Some bytes) = shown bytes

-- the number of resources that have their recorded SHA-256
abbrev pub sound_count : Source → ℕ
sound_count s = length (filter (λ e. is_sound e.1) s.held)

-- the answer of the model to a request
abbrev pub answer_to : ScriptState Source → Result Request Refusal → Answer Source
answer_to s (Ok (At t)) = record { outcome = moment_set; commands = []; session = record { source = s.source; now = t } }
answer_to s (Ok (Run command)) = stepped s command (step s.source command s.now)
answer_to s (Ok (Document doc)) = unchanged s (shown_or refusals.NoSuchDocument (document_text (shown_of s.source) doc))
answer_to s (Ok (Body name)) = unchanged s (shown_or (refusals.Source NotHeld) (body_of name s.source))
answer_to s (Ok Status) = unchanged s (counted (status_of s.source))
answer_to s (Ok Verify) = unchanged s (verified (damaged_names s.source) (sound_count s.source))
answer_to s (Err refusal) = unchanged s (refused refusal)

-- the answer of the model to a line: one past the limit is refused, whatever its content
abbrev pub line_answer : ScriptState Source → List ℕ → Answer Source
line_answer s line = if nat_lt line_limit (length line) then unchanged s (refused refusals.LongLine) else answer_to s (request_of line)

-- the answer of the model to a statement
abbrev pub statement_answer : ScriptState Source → Statement → Answer Source
statement_answer s (single line) = line_answer s line
statement_answer s (grouped first lines) = answer_to s (request_by (grouped first lines))
statement_answer s cut_off = answer_to s (request_by cut_off)

-- its answers to statements, one after another
abbrev pub answers_of : ScriptState Source → List Statement → List (Answer Source)
answers_of s [] = []
answers_of s (statement ∷ statements) = statement_answer s statement ∷ answers_of (statement_answer s statement).session statements
