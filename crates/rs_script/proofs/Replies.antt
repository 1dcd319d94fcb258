-- The statements of a script, each done once, and the commands that the source gets for them.
use Rattle.std.proofs.Common.{◌≡◌, inl, inr, ℕ, Bool, true, false, List, [], ◌∷◌, Option, Some, None, Result, Ok, Err, Vec, Global, refl, ap, sym, ◌∙◌, subst, cond}
use Rattle.rs_disk.specs.Medium.{DiskState}
use Rattle.rs_model.specs.declared.command.Command.{Command}
use Rattle.rs_store.specs.declared.refusal.Refusal as stored
use Rattle.rs_store.specs.Source.{Stored}
use Rattle.rs_store.specs.Laws.{RestIsIdle, TurnsGoOn}
use Rattle.rs_store.specs.Runs.{IsIdle, InTurn}
use Rattle.rs_recovery.specs.Replies.{AnsweredCommand, command_of, ack_of}
use Rattle.rs_recovery.specs.Turns.{CommandsAreTurns, ReadingsIdle}
use Rattle.rs_script.specs.declared.refusal.Refusal.{Refusal}
use Rattle.rs_script.specs.declared.request.Request.{Request}
use Rattle.rs_script.specs.declared.request.Request.TheVariants.{At, Run, Document, Body, Status, Verify}
use Rattle.rs_lists.specs.declared.doc.Doc.{Doc}
use Rattle.rs_script.specs.Model.{shown_or}
use Rattle.rs_script.specs.Outcomes.{shown_as, verified_as, AskedGives, AnswerGives, LineGives, StatementGives}
use Rattle.rs_script.specs.Requests.{request_of}
use Rattle.rs_script.specs.Room.{TakesRoom, GroupTakesRoom}
use Rattle.rs_script.specs.Statements.{Statement, single, grouped, cut_off, request_by, IsScript}
use Rattle.rs_script.specs.Script.{Transcript}
use Rattle.rs_script.specs.Session.{ScriptState, LineOutcome, Answer, moment_set, refused, unchanged}
use Rattle.rs_script.specs.Told.{DoneStatement, IsOwnOutcome, IsStatementOutcome, moment_behind, AreDone, statements_of, outcomes_of, commands_of, acks_of, ScriptsDoStatements}

shows_body : (name : List ℕ) (result : Result (Vec ℕ Global) stored.Refusal) → IsOwnOutcome (Ok (Body name)) (shown_as result)
shows_body name (Ok bytes) = tt
shows_body name (Err refusal) = tt

tells_names : (held : ℕ) (result : Result (Vec (List ℕ) Global) stored.Refusal) → IsOwnOutcome (Ok Verify) (verified_as held result)
tells_names held (Ok names) = tt
tells_names held (Err refusal) = tt

shows_found : (doc : Doc) (refusal : Refusal) (found : Option (List ℕ)) → IsOwnOutcome (Ok (Document doc)) (shown_or refusal found)
shows_found doc refusal None = tt
shows_found doc refusal (Some bytes) = tt

tells_either : (request : Result Request Refusal) (b : Bool) (one other : LineOutcome) → IsOwnOutcome request one → IsOwnOutcome request other
    → IsOwnOutcome request (cond b one other)
tells_either request true one other h k = h
tells_either request false one other h k = k

refused_stays : (request : Result Request Refusal) (now : ℕ) (refusal : Refusal) → moment_behind request now (refused refusal) ≡ now
refused_stays (Ok (At t)) now refusal = refl
refused_stays request now refusal = refl

module _ {D : Type 0} (device : D → DiskState) (rest : RestIsIdle device) (reading : ReadingsIdle device)
    (command : CommandsAreTurns device) (join : TurnsGoOn device) where
  -- the command that the source got for a request, by its outcome, and the moment after it
  record Goes (old : ScriptState (Stored D)) (request : Result Request Refusal) (answer : Answer (Stored D)) : Type 0 where
    got : Option AnsweredCommand
    is : IsStatementOutcome request old.now got answer.outcome
    turn : InTurn device old.source (command_of got) (ack_of got) answer.session.source
    now : answer.session.now ≡ moment_behind request old.now answer.outcome

  -- the source got no command
  same_goes : (old : ScriptState (Stored D)) (request : Result Request Refusal) (answer : Answer (Stored D)) (outcome : LineOutcome) → answer ≡ unchanged old outcome
      → IsOwnOutcome request outcome → moment_behind request old.now outcome ≡ old.now → Goes old request answer
  same_goes old request answer outcome e own stays =
      subst (Goes old request) (sym e) (record { got = None; is = own; turn = rest old.source; now = sym stays })

  moment_goes : (old : ScriptState (Stored D)) (t : ℕ)
      → Goes old (Ok (At t)) (record { outcome = moment_set; commands = []; session = record { source = old.source; now = t } })
  moment_goes old t = record { got = None; is = tt; turn = rest old.source; now = refl }

  request_goes : (old : ScriptState (Stored D)) (request : Result Request Refusal) (answer : Answer (Stored D)) → AskedGives device old request answer
      → Goes old request answer
  request_goes old (Ok (At t)) answer e = subst (Goes old (Ok (At t))) (sym e) (moment_goes old t)
  request_goes old (Ok (Run asked)) answer r = record {
    got = Some (record { asked = (asked, old.now); ack = record { reply = r.result; at_call = (device answer.session.source.disk).calls } });
    is = (refl, refl, r.outcome);
    turn = command old.source answer.session.source asked old.now r.result r.answers;
    now = r.now;
  }
  request_goes old (Ok (Document doc)) answer e = same_goes old (Ok (Document doc)) answer _ e (tells_either (Ok (Document doc)) old.source.is_closed _ _ tt (shows_found doc _ _)) refl
  request_goes old (Ok (Body name)) answer r = record {
    got = None;
    is = subst (IsOwnOutcome (Ok (Body name))) (sym r.outcome) (shows_body name r.result);
    turn = reading old.source answer.session.source r.answers.reads_only;
    now = r.now;
  }
  request_goes old (Ok Status) answer e = same_goes old (Ok Status) answer _ e (tells_either (Ok Status) old.source.is_closed _ _ tt tt) refl
  request_goes old (Ok Verify) answer r = record {
    got = None;
    is = subst (IsOwnOutcome (Ok Verify)) (sym r.outcome) (tells_names _ r.result);
    turn = reading old.source answer.session.source r.answers.reads_only;
    now = r.now;
  }
  request_goes old (Err refusal) answer e = same_goes old (Err refusal) answer _ e tt refl

  answer_goes : (old : ScriptState (Stored D)) (request : Result Request Refusal) (Room : Type 0) (answer : Answer (Stored D))
      → AnswerGives device old request Room answer → Goes old request answer
  answer_goes old request Room answer (inl gives) = request_goes old request answer gives
  answer_goes old request Room answer (inr (room, e)) = same_goes old request answer _ e tt (refused_stays request old.now _)

  line_goes : (old : ScriptState (Stored D)) (line : List ℕ) (answer : Answer (Stored D)) → LineGives device old line answer → Goes old (request_of line) answer
  line_goes old line answer (inl long) = same_goes old (request_of line) answer _ long.1 tt (refused_stays (request_of line) old.now _)
  line_goes old line answer (inr (within, gives)) = answer_goes old (request_of line) (TakesRoom line) answer gives

  statement_goes : (old : ScriptState (Stored D)) (statement : Statement) (answer : Answer (Stored D)) → StatementGives device old statement answer
      → Goes old (request_by statement) answer
  statement_goes old (single line) answer gives = line_goes old line answer gives
  statement_goes old (grouped first lines) answer gives = answer_goes old (request_by (grouped first lines)) (GroupTakesRoom lines) answer gives
  statement_goes old cut_off answer gives = request_goes old (request_by cut_off) answer gives

  -- the commands that the source got for statements, one after another
  record AllGo (old : ScriptState (Stored D)) (statements : List Statement) (outcomes : List LineOutcome) (new : Stored D) : Type 0 where
    done : List DoneStatement
    statements_are : statements_of done ≡ statements
    done_so : AreDone old.now done
    turn : InTurn device old.source (commands_of done) (acks_of done) new
    outcomes_are : outcomes_of done ≡ outcomes

  statements_go : (old : ScriptState (Stored D)) (statements : List Statement) (outcomes : List LineOutcome) (commands : List (Command × ℕ)) (new : ScriptState (Stored D))
      → Transcript device old statements outcomes commands new → AllGo old statements outcomes new.source
  statements_go old [] outcomes commands new t = record {
    done = [];
    statements_are = refl;
    done_so = tt;
    turn = subst (λ (s : ScriptState (Stored D)). IsIdle device old.source s.source) (sym t.2) (rest old.source);
    outcomes_are = sym t.0;
  }
  statements_go old (statement ∷ statements) outcomes commands new t =
      let here = statement_goes old statement t.0 t.3 in
      let later = statements_go t.0.session statements t.1 t.2 new t.6 in
      record {
        done = record { statement = statement; got = here.got; outcome = t.0.outcome } ∷ later.done;
        statements_are = ap (λ l. statement ∷ l) later.statements_are;
        done_so = (here.is, subst (λ (now : ℕ). AreDone now later.done) here.now later.done_so);
        turn = join old.source t.0.session.source new.source (command_of here.got) (commands_of later.done) (ack_of here.got) (acks_of later.done) here.turn later.turn;
        outcomes_are = ap (λ l. t.0.outcome ∷ l) later.outcomes_are ∙ sym t.4;
      }

  pub scripts_do : ScriptsDoStatements device
  scripts_do old new input outcomes commands gives =
      let all = statements_go old gives.0 outcomes commands new gives.2 in
      record {
        done = all.done;
        cut = subst (IsScript input) (sym all.statements_are) gives.1;
        done_so = all.done_so;
        in_turn = all.turn;
        outcomes_are = all.outcomes_are;
      }
