-- The statements of a script make a walk, one after another.
use Rattle.std.proofs.Common.{◌≡◌, true≢false, ℕ, Bool, true, false, List, [], ◌∷◌, ◌++◌, refl, sym, ◌∙◌, ap, subst, IsTrue}
use Rattle.rs_disk.specs.Medium.{DiskState, IsImage, Medium, IsMedium}
use Rattle.rs_model.specs.State.{Source}
use Rattle.rs_model.specs.Walk.{walk_of}
use Rattle.rs_model.specs.declared.command.Command.{Command}
use Rattle.rs_model.specs.declared.event.Event.{Event}
use Rattle.rs_script.proofs.FromBelow.{walk-append, walk_is, walk_behind, walked}
use Rattle.rs_image.specs.StateOfImage.{StandsFor}
use Rattle.rs_caps.specs.PathAnswers.{DocumentsAreAnswered, BodiesAreAnswered}
use Rattle.rs_store.specs.Laws.{HeldStands}
use Rattle.rs_store.specs.Source.{Stored, Holds}
use Rattle.rs_recovery.specs.Turns.{ReadingsIdle}
use Rattle.rs_recovery.specs.Walked.{LeavesWalk, CommandsMakeWalks, ClosedCommandsAreRefused}
use Rattle.rs_script.specs.Statements.{Statement, request_by}
use Rattle.rs_script.specs.Script.{Transcript, ScriptsMakeWalks}
use Rattle.rs_script.specs.Session.{ScriptState, LineOutcome}
use Rattle.rs_script.specs.Walked.{StatementEvents, now_after, IsWalkOf, IsScriptWalk}
use Rattle.rs_script.proofs.Chains.{statement_follows}
use Rattle.rs_script.proofs.NamedDocuments.{statement_has_path}
use Rattle.rs_script.proofs.Walks.{Shut, statement_now, statement_walk, statement_shut}

abbrev Kind : Type 1
Kind = List Event → Type 0

-- the events of a statement and those of the statements after it
then_statements : (s : Source) (now after : ℕ) (statement : Statement) (statements : List Statement) (outcome : LineOutcome) (more outcomes : List LineOutcome) (here later : List Event)
    → outcomes ≡ outcome ∷ more → after ≡ now_after now (request_by statement) outcome → StatementEvents s now (request_by statement) outcome here
    → IsWalkOf (walk_of s here) after statements more later → IsWalkOf s now (statement ∷ statements) outcomes (here ++ later)
then_statements s now after statement statements outcome more outcomes here later split set are behind =
    subst (λ (o : List LineOutcome). IsWalkOf s now (statement ∷ statements) o (here ++ later)) (sym split)
    (here, later, refl, are, subst (λ (t : ℕ). IsWalkOf (walk_of s here) t statements more later) set behind)

no_statements : (s : Source) (now : ℕ) (outcomes : List LineOutcome) → outcomes ≡ [] → IsWalkOf s now [] outcomes []
no_statements s now outcomes none = subst (λ (o : List LineOutcome). IsWalkOf s now [] o []) (sym none) refl

module _ {D : Type 0} (device : D → DiskState) (refusing : ClosedCommandsAreRefused device) where
  -- statements of a closed source
  statements_shut : (statements : List Statement) (old : ScriptState (Stored D)) (outcomes : List LineOutcome) (commands : List (Command × ℕ)) (new : ScriptState (Stored D)) (s : Source)
      → Transcript device old statements outcomes commands new → old.source.is_closed ≡ true
      → Shut device old.source new.source s (IsWalkOf s old.now statements outcomes)
  statements_shut [] old outcomes commands new s t closed = record {
    events = [];
    are = no_statements s old.now outcomes t.0;
    same = refl;
    closed = ap (λ (x : ScriptState (Stored D)). x.source.is_closed) t.2 ∙ closed;
    held = ap (λ (x : ScriptState (Stored D)). (device x.source.disk).now) t.2;
  }
  statements_shut (statement ∷ statements) old outcomes commands new s t closed =
      let first = statement_shut device refusing old s closed statement t.0 t.3 in
      let behind = statements_shut statements t.0.session t.1 t.2 new (walk_of s first.events) t.6 first.closed in
      record {
        events = first.events ++ behind.events;
        are = then_statements s old.now t.0.session.now statement statements t.0.outcome t.1 outcomes first.events behind.events t.4
            (statement_now device old statement t.0 t.3) first.are behind.are;
        same = walk-append s first.events behind.events ∙ behind.same ∙ first.same;
        closed = behind.closed;
        held = behind.held ∙ first.held;
      }

module _ {D : Type 0} (device : D → DiskState) where
  -- the device was honest before, if it is
  statements_honest : (statements : List Statement) (old : ScriptState (Stored D)) (outcomes : List LineOutcome) (commands : List (Command × ℕ)) (new : ScriptState (Stored D))
      → Transcript device old statements outcomes commands new → IsTrue (device new.source.disk).honest → IsTrue (device old.source.disk).honest
  statements_honest [] old outcomes commands new t honest = subst (λ (x : ScriptState (Stored D)). IsTrue (device x.source.disk).honest) t.2 honest
  statements_honest (statement ∷ statements) old outcomes commands new t honest =
      (statement_follows device old t.0 statement t.3).lasts (statements_honest statements t.0.session t.1 t.2 new t.6 honest)

module _ {D : Type 0} (device : D → DiskState) (sound : (disk : D) → IsMedium (device disk).size (device disk).now) (stands : HeldStands device)
    (reading : ReadingsIdle device) (walking : CommandsMakeWalks device) (refusing : ClosedCommandsAreRefused device)
    (documents : DocumentsAreAnswered) (bodies : BodiesAreAnswered) where
  -- the source was closed at a statement: no more is done
  shut_behind : (mid new : Stored D) (s : Source) (M N : Kind) → LeavesWalk device s M mid
      → ((here : List Event) → M here → Shut device mid new (walk_of s here) (λ later. N (here ++ later))) → new.is_closed ≡ true
      → (device new.disk).now ≡ (device mid.disk).now → LeavesWalk device s N new
  shut_behind mid new s M N first behind closed held = record {
    held = λ free. absurd (true≢false (sym closed ∙ free));
    at_exit = λ image is.
        let at = first.at_exit image (subst (λ (m : Medium). IsImage m image) held is) in
        let rest = behind at.0 at.1 in
        (at.0 ++ rest.events, rest.are, subst (StandsFor image) (sym (walk-append s at.0 rest.events ∙ rest.same)) at.2);
  }

  statements_walk : (statements : List Statement) (old : ScriptState (Stored D)) (outcomes : List LineOutcome) (commands : List (Command × ℕ)) (new : ScriptState (Stored D)) (s : Source)
      → Transcript device old statements outcomes commands new → Holds device old.source s → IsTrue (device new.source.disk).honest
      → LeavesWalk device s (IsWalkOf s old.now statements outcomes) new.source
  statements_walk [] old outcomes commands new s t holds honest =
      subst (λ (x : ScriptState (Stored D)). LeavesWalk device s (IsWalkOf s old.now [] outcomes) x.source) (sym t.2)
      (walked device stands s (IsWalkOf s old.now [] outcomes) old.source [] (no_statements s old.now outcomes t.0) holds)
  statements_walk (statement ∷ statements) old outcomes commands new s t holds honest =
      by_statement (λ next held. statements_walk statements t.0.session t.1 t.2 new next t.6 held honest) t.0.session.source.is_closed refl
    where
      first : LeavesWalk device s (StatementEvents s old.now (request_by statement) t.0.outcome) t.0.session.source
      first =
          statement_walk device sound stands reading walking documents bodies old s holds statement (statement_has_path statement) t.0 t.3
          (statements_honest device statements t.0.session t.1 t.2 new t.6 honest)

      joined : (here later : List Event) → StatementEvents s old.now (request_by statement) t.0.outcome here
          → IsWalkOf (walk_of s here) t.0.session.now statements t.1 later → IsWalkOf s old.now (statement ∷ statements) outcomes (here ++ later)
      joined here later are behind =
          then_statements s old.now t.0.session.now statement statements t.0.outcome t.1 outcomes here later t.4 (statement_now device old statement t.0 t.3) are behind

      shut : t.0.session.source.is_closed ≡ true → (here : List Event) → StatementEvents s old.now (request_by statement) t.0.outcome here
          → Shut device t.0.session.source new.source (walk_of s here) (λ later. IsWalkOf s old.now (statement ∷ statements) outcomes (here ++ later))
      shut closed here are =
          let behind = statements_shut device refusing statements t.0.session t.1 t.2 new (walk_of s here) t.6 closed in
          record {
            events = behind.events;
            are = joined here behind.events are behind.are;
            same = behind.same;
            closed = behind.closed;
            held = behind.held;
          }

      by_statement : ((next : Source) → Holds device t.0.session.source next → LeavesWalk device next (IsWalkOf next t.0.session.now statements t.1) new.source)
          → (b : Bool) → t.0.session.source.is_closed ≡ b → LeavesWalk device s (IsWalkOf s old.now (statement ∷ statements) outcomes) new.source
      by_statement again true closed =
          let any = statements_shut device refusing statements t.0.session t.1 t.2 new s t.6 closed in
          shut_behind t.0.session.source new.source s (StatementEvents s old.now (request_by statement) t.0.outcome) (IsWalkOf s old.now (statement ∷ statements) outcomes)
          first (shut closed) any.closed any.held
      by_statement again false free =
          let here = first.held free in
          walk_behind device s here.0 (IsWalkOf (walk_of s here.0) t.0.session.now statements t.1) (IsWalkOf s old.now (statement ∷ statements) outcomes) new.source
          (λ later behind. joined here.0 later here.1 behind) (again (walk_of s here.0) here.2)

  pub scripts_walk : ScriptsMakeWalks device
  scripts_walk old new input outcomes commands gives s holds honest =
      walk_is device s (IsWalkOf s old.now gives.0 outcomes) (IsScriptWalk s old.now input outcomes) new.source
      (λ events are. (gives.0, gives.1, are))
      (statements_walk gives.0 old outcomes commands new s gives.2 holds honest)
