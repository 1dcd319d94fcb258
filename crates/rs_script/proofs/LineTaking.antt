-- One more line: it ends a statement, or a group goes on.
use Rattle.std.proofs.Common.{◌≡◌, ℕ, ◌+◌, ◌≤◌, List, [], ◌∷◌, ◌++◌, length, Option, Some, None, Result, Vec, Global, refl, ap, sym, ◌∙◌, append-nil, arith, subst, length-append}
use Rattle.std.proofs.lemmas.Grind.{common_steps}
use Rattle.rs_disk.specs.Medium.{DiskState}
use Rattle.rs_model.specs.declared.command.Item.{Item}
use Rattle.rs_store.specs.Source.{Stored}
use Rattle.rs_script.specs.declared.group.Taking.{Taking}
use Rattle.rs_script.specs.declared.refusal.Refusal.{Refusal}
use Rattle.rs_script.specs.Answers.{outcome_text, output_of}
use Rattle.rs_script.specs.Outcomes.{StatementGives, GroupGives}
use Rattle.rs_script.specs.Progress.{HasAnswer, LinesTaken}
use Rattle.rs_script.specs.Session.{ScriptState}
use Rattle.rs_script.specs.Statements.{Statement, grouped, statement_lines, IsWholeStatement}
use Rattle.rs_script.specs.Taken.{KeepsItems, KeepsGroup}

module _ {D : Type 0} (device : D → DiskState) (old new : ScriptState (Stored D)) (begun : List (List ℕ)) (line : List ℕ) (Written : List ℕ → Type 0) where
  -- the line was taken, and left this group
  abbrev Leaves : Option Taking → Type 0
  Leaves group =
      (taken : LinesTaken device old (begun ++ line ∷ []) (record { session = new; group = group })) × (length taken.outcomes ≤ 1) × Written (output_of taken.outcomes)

  -- a statement is answered
  pub one_taken : (group : Option Taking) (statement : Statement) → statement_lines statement ≡ begun ++ line ∷ [] → IsWholeStatement statement → group ≡ None
      → HasAnswer (StatementGives device old statement) new Written → Leaves group
  one_taken group statement lines whole none is = (
    record {
      whole = statement ∷ [];
      part = [];
      outcomes = is.answer.outcome ∷ [];
      commands = is.answer.commands ++ [];
      lines_are = sym lines ∙ sym (append-nil (statement_lines statement)) ∙ sym (append-nil (statement_lines statement ++ []));
      each = grind (arith, common_steps, whole);
      kept = subst (λ (g : Option Taking). KeepsGroup g []) (sym none) refl;
      answered = (is.answer, [], [], is.gives, refl, refl, (refl, refl, sym is.session_is));
    },
    omega arith,
    subst Written (sym (append-nil (outcome_text is.answer.outcome))) is.written,
  )

  -- no statement is answered
  pub more_taken : (group : Option Taking) → KeepsGroup group (begun ++ line ∷ []) → old ≡ new → Written [] → Leaves group
  more_taken group kept same written = (
    record {
      whole = [];
      part = begun ++ line ∷ [];
      outcomes = [];
      commands = [];
      lines_are = refl;
      each = grind (arith, common_steps);
      kept = kept;
      answered = (refl, refl, sym same);
    },
    omega arith,
    written,
  )

  -- the line was the last of its group
  pub group_done : (group after : Option Taking) (taking : Taking) (items : Result (Vec Item Global) Refusal) → group ≡ Some taking → after ≡ None
      → taking.later ≡ 0 → ((lines : List (List ℕ)) → KeepsItems taking.items lines → KeepsItems items (lines ++ line ∷ []))
      → ((lines : List (List ℕ)) → KeepsItems items lines → HasAnswer (GroupGives device old lines) new Written)
      → KeepsGroup group begun → Leaves after
  group_done None after taking items is none last more answers kept = absurd cc
  group_done (Some kept) after taking items is none last more answers (first, lines, are, size, had) =
      let same : kept ≡ taking = cc in
      let later : kept.later ≡ 0 = ap (λ (t : Taking). t.later) same ∙ last in
      let has : KeepsItems taking.items lines = subst (λ (t : Taking). KeepsItems t.items lines) same had in
      let number : length lines + kept.later + 1 ≡ length (lines ++ line ∷ []) = simp length-append (omega (arith, later)) in
      one_taken after (grouped first (lines ++ line ∷ [])) (ap (λ z. z ++ line ∷ []) (sym are)) (size ∙ ap Some number) none (answers (lines ++ line ∷ []) (more lines has))

  -- and here the group lacks more
  pub group_goes_on : (group : Option Taking) (taking next : Taking) → group ≡ Some taking → next.later + 1 ≡ taking.later
      → ((lines : List (List ℕ)) → KeepsItems taking.items lines → KeepsItems next.items (lines ++ line ∷ []))
      → KeepsGroup group begun → KeepsGroup (Some next) (begun ++ line ∷ [])
  group_goes_on None taking next is later more kept = absurd cc
  group_goes_on (Some kept) taking next is later more (first, lines, are, size, had) =
      let same : kept ≡ taking = cc in
      let lacks : next.later + 1 ≡ kept.later = later ∙ ap (λ (t : Taking). t.later) (sym same) in
      let has : KeepsItems taking.items lines = subst (λ (t : Taking). KeepsItems t.items lines) same had in
      let number : length lines + kept.later + 1 ≡ length (lines ++ line ∷ []) + next.later + 1 = simp length-append (omega (arith, lacks)) in
      (first, lines ++ line ∷ [], ap (λ z. z ++ line ∷ []) are, size ∙ ap Some number, more lines has)
