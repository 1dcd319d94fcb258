-- The commands of a script are a run of its source.
use Rattle.std.proofs.Common.{◌≡◌, inl, inr, ℕ, List, [], ◌∷◌, Result, Ok, Err, sym, subst}
use Rattle.rs_disk.specs.Medium.{DiskState}
use Rattle.rs_model.specs.declared.command.Command.{Command}
use Rattle.rs_store.specs.Source.{Stored}
use Rattle.rs_store.specs.OnlyReads.{OnlyReads}
use Rattle.rs_store.specs.Laws.{RestIsIdle}
use Rattle.rs_recovery.specs.Prefixes.{IsRunOf, IdleIsRun, CommandIsRun, RunsJoin}
use Rattle.rs_recovery.specs.Turns.{ReadingsIdle}
use Rattle.rs_script.specs.declared.refusal.Refusal.{Refusal}
use Rattle.rs_script.specs.declared.request.Request.{Request}
use Rattle.rs_script.specs.declared.request.Request.TheVariants.{At, Run, Document, Body, Status, Verify}
use Rattle.rs_script.specs.Outcomes.{AskedGives, AnswerGives, LineGives, StatementGives}
use Rattle.rs_script.specs.Requests.{request_of}
use Rattle.rs_script.specs.Room.{TakesRoom, GroupTakesRoom}
use Rattle.rs_script.specs.Statements.{Statement, single, grouped, cut_off, request_by}
use Rattle.rs_script.specs.Script.{Transcript, ScriptsAreRuns}
use Rattle.rs_script.specs.Session.{ScriptState, LineOutcome, Answer}

module _ {D : Type 0} (device : D → DiskState) (rest : RestIsIdle device) (reading : ReadingsIdle device)
    (idle : IdleIsRun device) (one : CommandIsRun device) (join : RunsJoin device) where
  IsRun : Stored D → Answer (Stored D) → Type 0
  IsRun old answer = IsRunOf device old answer.commands answer.session.source

  none : (old : Stored D) → IsRunOf device old [] old
  none old = idle old old (rest old)

  read_only : (old new : Stored D) (commands : List (Command × ℕ)) → commands ≡ [] → OnlyReads device old new → IsRunOf device old commands new
  read_only old new commands nothing reads = subst (λ (l : List (Command × ℕ)). IsRunOf device old l new) (sym nothing) (idle old new (reading old new reads))

  request_runs : (old : ScriptState (Stored D)) (request : Result Request Refusal) (answer : Answer (Stored D)) → AskedGives device old request answer → IsRun old.source answer
  unfolding IsRun
  request_runs old (Ok (At t)) answer e = subst (IsRun old.source) (sym e) (none old.source)
  request_runs old (Ok (Run command)) answer r =
      subst (λ (l : List (Command × ℕ)). IsRunOf device old.source l answer.session.source) (sym r.commands)
      (one old.source answer.session.source command old.now r.result r.answers)
  request_runs old (Ok (Document doc)) answer e = subst (IsRun old.source) (sym e) (none old.source)
  request_runs old (Ok (Body name)) answer r = read_only old.source answer.session.source answer.commands r.commands r.answers.reads_only
  request_runs old (Ok Status) answer e = subst (IsRun old.source) (sym e) (none old.source)
  request_runs old (Ok Verify) answer r = read_only old.source answer.session.source answer.commands r.commands r.answers.reads_only
  request_runs old (Err refusal) answer e = subst (IsRun old.source) (sym e) (none old.source)

  answer_runs : (old : ScriptState (Stored D)) (request : Result Request Refusal) (Room : Type 0) (answer : Answer (Stored D)) → AnswerGives device old request Room answer → IsRun old.source answer
  unfolding IsRun
  answer_runs old request Room answer (inl gives) = request_runs old request answer gives
  answer_runs old request Room answer (inr (room, e)) = subst (IsRun old.source) (sym e) (none old.source)

  line_runs : (old : ScriptState (Stored D)) (line : List ℕ) (answer : Answer (Stored D)) → LineGives device old line answer → IsRun old.source answer
  unfolding IsRun
  line_runs old line answer (inl long) = subst (IsRun old.source) (sym long.1) (none old.source)
  line_runs old line answer (inr (within, gives)) = answer_runs old (request_of line) (TakesRoom line) answer gives

  statement_runs : (old : ScriptState (Stored D)) (statement : Statement) (answer : Answer (Stored D)) → StatementGives device old statement answer → IsRun old.source answer
  unfolding IsRun
  statement_runs old (single line) answer gives = line_runs old line answer gives
  statement_runs old (grouped first lines) answer gives = answer_runs old (request_by (grouped first lines)) (GroupTakesRoom lines) answer gives
  statement_runs old cut_off answer gives = request_runs old (request_by cut_off) answer gives

  statements_run : (old : ScriptState (Stored D)) (statements : List Statement) (outcomes : List LineOutcome) (commands : List (Command × ℕ)) (new : ScriptState (Stored D))
      → Transcript device old statements outcomes commands new → IsRunOf device old.source commands new.source
  unfolding IsRun
  statements_run old [] outcomes commands new t =
      subst (λ (l : List (Command × ℕ)). IsRunOf device old.source l new.source) (sym t.1)
      (subst (λ (s : ScriptState (Stored D)). IsRunOf device old.source [] s.source) (sym t.2) (none old.source))
  statements_run old (statement ∷ statements) outcomes commands new t =
      subst (λ (l : List (Command × ℕ)). IsRunOf device old.source l new.source) (sym t.5)
      (join old.source t.0.session.source new.source t.0.commands t.2 (statement_runs old statement t.0 t.3) (statements_run t.0.session statements t.1 t.2 new t.6))

  pub scripts_are_runs : ScriptsAreRuns device
  scripts_are_runs old new input outcomes commands gives = statements_run old gives.0 outcomes commands new gives.2
