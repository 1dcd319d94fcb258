-- Laws of transcripts.
use Rattle.std.proofs.Common.{◌≡◌, ◌≤◌, ◌<◌, ◌+◌, ◌^◌, ℕ, List, [], ◌∷◌, ◌++◌, false, refl, ap, sym, ◌∙◌, subst, arith, map, IsTrue}
use Rattle.std.specs.List.{flat_map}
use Rattle.std.proofs.lemmas.List.Elements.{All-head, All-tail}
use Rattle.rs_disk.specs.Medium.{DiskState}
use Rattle.rs_model.specs.State.{Source}
use Rattle.rs_model.specs.Step.{step, state_after, fold_of}
use Rattle.rs_model.specs.declared.command.Command.{Command}
use Rattle.rs_store.specs.Source.{Stored, Holds, state_of}
use Rattle.rs_script.specs.Model.{statement_answer, answers_of}
use Rattle.rs_script.specs.Statements.{Statement}
use Rattle.rs_script.specs.Script.{Transcript, ScriptsFollowTheModel, ScriptsTellTheFold, ScriptsHoldTheFold, IsMachine, AreDecided, model_state}
use Rattle.rs_script.specs.Session.{ScriptState, LineOutcome, Answer}
use Rattle.rs_script.proofs.Chains.{statement_follows, statement_rises}
use Rattle.rs_script.proofs.Grouped.{IsScript-once}
use Rattle.rs_script.proofs.Models.{statement_same}

fold_of-append : (s : Source) (commands more : List (Command × ℕ)) → fold_of s (commands ++ more) ≡ fold_of (fold_of s commands) more
fold_of-append s [] more = refl
fold_of-append s (c ∷ commands) more = fold_of-append (state_after s (step s c.0 c.1)) commands more

-- the outcomes in the model
abbrev outcomes_in : List (Answer Source) → List LineOutcome
outcomes_in answers = map (λ (a : Answer Source). a.outcome) answers

abbrev commands_in : List (Answer Source) → List (Command × ℕ)
commands_in answers = flat_map (λ (a : Answer Source). a.commands) answers

module _ {D : Type 0} (device : D → DiskState) where
  pub statements_last : (statements : List Statement) (old : ScriptState (Stored D)) (outcomes : List LineOutcome) (commands : List (Command × ℕ)) (new : ScriptState (Stored D))
      → Transcript device old statements outcomes commands new → IsTrue (device new.source.disk).honest → IsTrue (device old.source.disk).honest
  statements_last [] old outcomes commands new t honest = subst (λ (s : ScriptState (Stored D)). IsTrue (device s.source.disk).honest) t.2 honest
  statements_last (statement ∷ statements) old outcomes commands new t honest =
      (statement_follows device old t.0 statement t.3).lasts (statements_last statements t.0.session t.1 t.2 new t.6 honest)

  statements_rise : (statements : List Statement) (old : ScriptState (Stored D)) (outcomes : List LineOutcome) (commands : List (Command × ℕ)) (new : ScriptState (Stored D))
      → Transcript device old statements outcomes commands new → AreDecided outcomes
      → old.source.slots.root.generation ≤ new.source.slots.root.generation
  statements_rise [] old outcomes commands new t h = rw t.2 (omega arith)
  statements_rise (statement ∷ statements) old outcomes commands new t h =
      let h' : AreDecided (t.0.outcome ∷ t.1) = subst AreDecided t.4 h in
      let P : LineOutcome → Type 0 = λ outcome. ¬ IsMachine outcome in
      let first = statement_rises device old t.0 (All-head P t.0.outcome t.1 h') statement t.3 in
      let rest = statements_rise statements t.0.session t.1 t.2 new t.6 (All-tail P t.0.outcome t.1 h') in
      omega (arith, first, rest)

  statements_same : (statements : List Statement) (old : ScriptState (Stored D)) (outcomes : List LineOutcome) (commands : List (Command × ℕ)) (new : ScriptState (Stored D))
      → Transcript device old statements outcomes commands new → AreDecided outcomes
      → IsTrue (device new.source.disk).honest → new.source.slots.root.generation + 1 < 2 ^ 64
      → (outcomes ≡ outcomes_in (answers_of (model_state device old) statements)) × (commands ≡ commands_in (answers_of (model_state device old) statements))
  statements_same [] old outcomes commands new t h honest left = (t.0, t.1)
  statements_same (statement ∷ statements) old outcomes commands new t h honest left =
      let h' : AreDecided (t.0.outcome ∷ t.1) = subst AreDecided t.4 h in
      let P : LineOutcome → Type 0 = λ outcome. ¬ IsMachine outcome in
      let here = All-head P t.0.outcome t.1 h' in
      let later = All-tail P t.0.outcome t.1 h' in
      let first = statement_rises device old t.0 here statement t.3 in
      let rest = statements_rise statements t.0.session t.1 t.2 new t.6 later in
      let same = statement_same device old t.0 here statement t.3 (statements_last statements t.0.session t.1 t.2 new t.6 honest) (omega (arith, first, rest, left)) in
      let more = statements_same statements t.0.session t.1 t.2 new t.6 later honest left in (
        t.4 ∙ ap (λ o. o ∷ t.1) same.outcome ∙ ap (λ z. (statement_answer (model_state device old) statement).outcome ∷ z) more.0
            ∙ ap (λ s. (statement_answer (model_state device old) statement).outcome ∷ outcomes_in (answers_of s statements)) same.session,
        t.5 ∙ ap (λ c. c ++ t.2) same.commands ∙ ap (λ z. (statement_answer (model_state device old) statement).commands ++ z) more.1
            ∙ ap (λ s. (statement_answer (model_state device old) statement).commands ++ commands_in (answers_of s statements)) same.session,
      )

  -- if the model decides every outcome, a script does the same as the model
  pub script_same : ScriptsFollowTheModel device
  script_same old new input outcomes commands statements s h honest left is =
      let same = IsScript-once input s.0 statements s.1 is in
      let P : List Statement → Type 0 = λ l. Transcript device old l outcomes commands new in
      statements_same statements old outcomes commands new (subst P same s.2) h honest left

  -- an open source was open before
  statements_open : (statements : List Statement) (old : ScriptState (Stored D)) (outcomes : List LineOutcome) (commands : List (Command × ℕ)) (new : ScriptState (Stored D))
      → Transcript device old statements outcomes commands new → new.source.is_closed ≡ false → old.source.is_closed ≡ false
  statements_open [] old outcomes commands new t free = subst (λ (s : ScriptState (Stored D)). s.source.is_closed ≡ false) t.2 free
  statements_open (statement ∷ statements) old outcomes commands new t free =
      (statement_follows device old t.0 statement t.3).opened (statements_open statements t.0.session t.1 t.2 new t.6 free)

  statements_fold : (statements : List Statement) (old : ScriptState (Stored D)) (outcomes : List LineOutcome) (commands : List (Command × ℕ)) (new : ScriptState (Stored D))
      → Transcript device old statements outcomes commands new → new.source.is_closed ≡ false
      → state_of device new.source ≡ fold_of (state_of device old.source) commands
  statements_fold [] old outcomes commands new t free =
      ap (λ (s : ScriptState (Stored D)). state_of device s.source) t.2 ∙ sym (ap (fold_of (state_of device old.source)) t.1)
  statements_fold (statement ∷ statements) old outcomes commands new t free =
      let mid = statements_open statements t.0.session t.1 t.2 new t.6 free in
      statements_fold statements t.0.session t.1 t.2 new t.6 free ∙ ap (λ s. fold_of s t.2) ((statement_follows device old t.0 statement t.3).folds mid)
      ∙ sym (fold_of-append (state_of device old.source) t.0.commands t.2) ∙ sym (ap (fold_of (state_of device old.source)) t.5)

  -- the commands of a script make the state that it leaves
  pub script_folds : ScriptsTellTheFold device
  script_folds old new input outcomes commands s free = statements_fold s.0 old outcomes commands new s.2 free

  statements_hold : (statements : List Statement) (old : ScriptState (Stored D)) (outcomes : List LineOutcome) (commands : List (Command × ℕ)) (new : ScriptState (Stored D)) (s : Source)
      → Transcript device old statements outcomes commands new → Holds device old.source s → new.source.is_closed ≡ false
      → Holds device new.source (fold_of s commands)
  statements_hold [] old outcomes commands new s t held free =
      subst (λ c. Holds device new.source (fold_of s c)) (sym t.1) (subst (λ (x : ScriptState (Stored D)). Holds device x.source s) (sym t.2) held)
  statements_hold (statement ∷ statements) old outcomes commands new s t held free =
      let mid = statements_open statements t.0.session t.1 t.2 new t.6 free in
      let next = (statement_follows device old t.0 statement t.3).holds s held mid in
      let last = statements_hold statements t.0.session t.1 t.2 new (fold_of s t.0.commands) t.6 next free in
      subst (Holds device new.source) (sym (fold_of-append s t.0.commands t.2) ∙ sym (ap (fold_of s) t.5)) last

  -- and the state that is held then
  pub script_holds : ScriptsHoldTheFold device
  script_holds old new input outcomes commands s given held free = statements_hold given.0 old outcomes commands new s given.2 held free
