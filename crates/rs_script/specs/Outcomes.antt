-- The possible outcomes of a statement on a stored source.
use Rattle.std.specs.Prelude.{◌≡◌, ◌⊎◌, ◌<◌, ◌≤◌, ◌-◌, ℕ, if◌then◌else◌, List, [], length, Result, Ok, Err, Vec}
use Rattle.std.specs.Global.{Global}
use Rattle.rs_disk.specs.Medium.{DiskState}
use Rattle.rs_model.specs.declared.command.Command.{Command}
use Rattle.rs_model.specs.declared.command.Reply.{Reply}
use Rattle.rs_store.specs.Answered.{Answers}
use Rattle.rs_store.specs.Shows.{status_of}
use Rattle.rs_store.specs.Source.{Stored, state_of}
use Rattle.rs_store.specs.declared.refusal.Refusal as stored
use Rattle.rs_store.specs.declared.refusal.Refusal.TheVariants.{Closed}
use Rattle.rs_recovery.specs.Prefixes.{counted_as}
use Rattle.rs_caps.specs.DocumentTexts.{document_text}
use Rattle.rs_caps.specs.Shows.{shown_of}
use Rattle.rs_script.specs.declared.refusal.Refusal.{Refusal}
use Rattle.rs_items.specs.declared.item.ItemFault.TheVariants as fault
use Rattle.rs_script.specs.declared.refusal.Refusal.TheVariants as refusals
use Rattle.rs_script.specs.declared.request.Request.{Request}
use Rattle.rs_script.specs.declared.request.Request.TheVariants.{At, Run, Document, Body, Status, Verify}
use Rattle.rs_store.specs.AnswersBody.{AnswersBody}
use Rattle.rs_store.specs.Verified.{AnswersVerify}
use Rattle.rs_script.specs.Lines.{line_limit}
use Rattle.rs_script.specs.Model.{shown_or}
use Rattle.rs_script.specs.Requests.{request_of}
use Rattle.rs_script.specs.Room.{TakesRoom, GroupTakesRoom}
use Rattle.rs_script.specs.Statements.{Statement, single, grouped, cut_off, request_by, items_of_group, group_request}
use Rattle.rs_script.specs.Session.{ScriptState, LineOutcome, moment_set, replied, shown, counted, verified, refused, Answer, unchanged}

-- the outcome by the answer to a command
abbrev pub outcome_of_reply : Result Reply stored.Refusal → LineOutcome
outcome_of_reply (Ok reply) = replied reply
outcome_of_reply (Err refusal) = refused (refusals.Source refusal)

-- the source got a command, and answered it
pub record RunAnswers {D : Type 0} (device : D → DiskState) (old : ScriptState (Stored D)) (command : Command) (answer : Answer (Stored D)) : Type 0 where
  pub result : Result Reply stored.Refusal
  pub answers : Answers device old.source answer.session.source command old.now result
  pub outcome : answer.outcome ≡ outcome_of_reply result
  pub commands : answer.commands ≡ counted_as command old.now result
  pub now : answer.session.now ≡ old.now

-- the outcome by the answer to a read of a body
abbrev pub shown_as : Result (Vec ℕ Global) stored.Refusal → LineOutcome
shown_as (Ok bytes) = shown bytes.items
shown_as (Err refusal) = refused (refusals.Source refusal)

-- the source was asked for a body, and answered
pub record ReadAnswers {D : Type 0} (device : D → DiskState) (old : ScriptState (Stored D)) (name : List ℕ) (answer : Answer (Stored D)) : Type 0 where
  pub result : Result (Vec ℕ Global) stored.Refusal
  pub answers : AnswersBody device old.source answer.session.source name result
  pub outcome : answer.outcome ≡ shown_as result
  pub commands : answer.commands ≡ []
  pub now : answer.session.now ≡ old.now

-- the outcome by the answer to `verify` with `held` bodies: those that are not damaged are sound
abbrev pub verified_as : ℕ → Result (Vec (List ℕ) Global) stored.Refusal → LineOutcome
verified_as held (Ok names) = verified names.items (held - length names.items)
verified_as held (Err refusal) = refused (refusals.Source refusal)

-- the source was asked for the damaged bodies, and answered
pub record VerifyAnswers {D : Type 0} (device : D → DiskState) (old : ScriptState (Stored D)) (answer : Answer (Stored D)) : Type 0 where
  pub result : Result (Vec (List ℕ) Global) stored.Refusal
  pub answers : AnswersVerify device old.source answer.session.source result
  pub outcome : answer.outcome ≡ verified_as (length (state_of device old.source).held) result
  pub commands : answer.commands ≡ []
  pub now : answer.session.now ≡ old.now

-- a closed source refuses every request
abbrev pub if_open : {D : Type 0} → ScriptState (Stored D) → LineOutcome → LineOutcome
if_open s outcome = if s.source.is_closed then refused (refusals.Source Closed) else outcome

-- the possible outcomes of a request: documents and counts are those of the state of the source
abbrev pub AskedGives : {D : Type 0} → (D → DiskState) → ScriptState (Stored D) → Result Request Refusal → Answer (Stored D) → Type 0
AskedGives device old (Ok (At t)) answer =
    answer ≡ record { outcome = moment_set; commands = []; session = record { source = old.source; now = t } }
AskedGives device old (Ok (Run command)) answer = RunAnswers device old command answer
AskedGives device old (Ok (Document doc)) answer =
    answer ≡ unchanged old (if_open old (shown_or refusals.NoSuchDocument (document_text (shown_of (state_of device old.source)) doc)))
AskedGives device old (Ok (Body name)) answer = ReadAnswers device old name answer
AskedGives device old (Ok Status) answer = answer ≡ unchanged old (if_open old (counted (status_of (state_of device old.source))))
AskedGives device old (Ok Verify) answer = VerifyAnswers device old answer
AskedGives device old (Err refusal) answer = answer ≡ unchanged old (refused refusal)

-- the outcomes of a request; or the statement takes memory, which was refused, and the session stayed the same
abbrev pub AnswerGives : {D : Type 0} → (D → DiskState) → ScriptState (Stored D) → Result Request Refusal → Type 0 → Answer (Stored D) → Type 0
AnswerGives device old request Room answer = AskedGives device old request answer ⊎ (Room × (answer ≡ unchanged old (refused (refusals.Line fault.NoMemory))))

-- the possible outcomes of a line: one past the limit is refused, whatever its content
abbrev pub LineGives : {D : Type 0} → (D → DiskState) → ScriptState (Stored D) → List ℕ → Answer (Stored D) → Type 0
LineGives device old line answer =
    ((line_limit < length line) × (answer ≡ unchanged old (refused refusals.LongLine)))
    ⊎ ((length line ≤ line_limit) × AnswerGives device old (request_of line) (TakesRoom line) answer)

-- the possible outcomes of a group of these lines
abbrev pub GroupGives : {D : Type 0} → (D → DiskState) → ScriptState (Stored D) → List (List ℕ) → Answer (Stored D) → Type 0
GroupGives device old lines answer = AnswerGives device old (group_request (items_of_group lines)) (GroupTakesRoom lines) answer

-- the possible outcomes of a statement: a group that the end of the input cuts off is refused
abbrev pub StatementGives : {D : Type 0} → (D → DiskState) → ScriptState (Stored D) → Statement → Answer (Stored D) → Type 0
StatementGives device old (single line) answer = LineGives device old line answer
StatementGives device old (grouped first lines) answer = GroupGives device old lines answer
StatementGives device old cut_off answer = AskedGives device old (request_by cut_off) answer
