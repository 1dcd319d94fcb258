-- The names in the outcomes of a script are lawful.
use Rattle.std.proofs.Common.{◌≡◌, ◌⊎◌, true≢false, inl, inr, ℕ, Bool, true, false, not, List, [], ◌∷◌, filter, All, refl, sym, ◌∙◌, subst, cond, Option, Some, None, Result, Ok, Err, Vec, Global, IsErrOf, IsTrue}
use Rattle.std.proofs.lemmas.List.Elements.{All-nil, All-cons, All-map, All-filter}
use Rattle.rs_disk.specs.Medium.{DiskState, IsMedium}
use Rattle.rs_record.specs.Name.{is_name}
use Rattle.rs_model.specs.State.{Source}
use Rattle.rs_model.specs.Step.{fold_of}
use Rattle.rs_model.specs.declared.command.Command.{Command}
use Rattle.rs_model.specs.declared.command.Reply.{Reply}
use Rattle.rs_model.specs.declared.value.Held.{Held}
use Rattle.rs_store.specs.Laws.{HeldStands}
use Rattle.rs_store.specs.Source.{Stored, Holds, state_of}
use Rattle.rs_store.specs.Verified.{is_sound, damaged_names, AnswersVerify}
use Rattle.rs_store.specs.declared.refusal.Refusal as stored
use Rattle.rs_store.specs.declared.refusal.Refusal.TheVariants.{Closed}
use Rattle.rs_recovery.specs.Recovered.{HeldNamesAreLawful}
use Rattle.rs_script.specs.declared.refusal.Refusal.{Refusal}
use Rattle.rs_script.specs.declared.request.Request.{Request}
use Rattle.rs_script.specs.declared.request.Request.TheVariants.{At, Run, Document, Body, Status, Verify}
use Rattle.rs_script.specs.Model.{shown_or}
use Rattle.rs_script.specs.Outcomes.{outcome_of_reply, shown_as, verified_as, AskedGives, AnswerGives, LineGives, StatementGives}
use Rattle.rs_script.specs.Requests.{request_of}
use Rattle.rs_script.specs.Room.{TakesRoom, GroupTakesRoom}
use Rattle.rs_script.specs.Statements.{Statement, single, grouped, cut_off, request_by}
use Rattle.rs_script.specs.Script.{Transcript}
use Rattle.rs_script.specs.Session.{ScriptState, LineOutcome, Answer}
use Rattle.rs_script.specs.Told.{NamesAreLawful, ScriptsTellNames}
use Rattle.rs_script.proofs.FromBelow.{told}
use Rattle.rs_script.proofs.Chains.{statement_follows}
use Rattle.rs_script.proofs.Transcripts.{statements_last}

abbrev IsNamed : List ℕ → Type 0
IsNamed name = IsTrue (is_name name)

-- a source holds a state, or is closed
abbrev Stands : {D : Type 0} → (D → DiskState) → Stored D → Type 0
Stands device source = ((s : Source) × Holds device source s) ⊎ (source.is_closed ≡ true)

abbrev HasName : List ℕ × Held → Type 0
HasName held = IsNamed held.0

-- the damaged ones among lawful names
damaged_named : (s : Source) → All HasName s.held → All IsNamed (damaged_names s)
damaged_named s lawful =
    let is_damaged : List ℕ × Held → Bool = λ e. not (is_sound e.1) in
    All-map IsNamed (λ (e : List ℕ × Held). e.0) (filter is_damaged s.held) (All-filter is_damaged HasName s.held lawful)

-- outcomes without names
reply_named : (result : Result Reply stored.Refusal) → NamesAreLawful (outcome_of_reply result)
reply_named (Ok reply) = tt
reply_named (Err refusal) = tt

body_named : (result : Result (Vec ℕ Global) stored.Refusal) → NamesAreLawful (shown_as result)
body_named (Ok bytes) = tt
body_named (Err refusal) = tt

found_named : (refusal : Refusal) (found : Option (List ℕ)) → NamesAreLawful (shown_or refusal found)
found_named refusal None = tt
found_named refusal (Some bytes) = tt

either_named : (b : Bool) (one other : LineOutcome) → NamesAreLawful one → NamesAreLawful other → NamesAreLawful (cond b one other)
either_named true one other h k = h
either_named false one other h k = k

module _ {D : Type 0} (device : D → DiskState) (sound : (disk : D) → IsMedium (device disk).size (device disk).now) (stand : HeldStands device) (naming : HeldNamesAreLawful) where
  held_named : (source : Stored D) (s : Source) → Holds device source s → All IsNamed (damaged_names (state_of device source))
  held_named source s holds =
      let image = (device source.disk).now.seen in
      subst (λ (t : Source). All IsNamed (damaged_names t)) (sym (told device sound source s holds))
      (damaged_named s (naming image s (stand source s holds image (sound source.disk).image)))

  verify_named : (old new : Stored D) (held : ℕ) (result : Result (Vec (List ℕ) Global) stored.Refusal) → AnswersVerify device old new result
      → IsTrue (device new.disk).honest → Stands device old → NamesAreLawful (verified_as held result)
  verify_named old new held (Err refusal) a honest stands = tt
  verify_named old new held (Ok names) a honest (inl (s, holds)) = subst (All IsNamed) (sym (a.names honest)) (held_named old s holds)
  verify_named old new held (Ok names) a honest (inr closed) = let refused : IsErrOf (Ok names) Closed = a.closed.1 closed in absurd cc

  -- the outcome of one statement
  module _ (old : ScriptState (Stored D)) (answer : Answer (Stored D)) (honest : IsTrue (device answer.session.source.disk).honest) (stands : Stands device old.source) where
    Named : Answer (Stored D) → Type 0
    Named a = NamesAreLawful a.outcome

    request_named : (request : Result Request Refusal) → AskedGives device old request answer → Named answer
    unfolding Named
    request_named (Ok (At t)) e = subst Named (sym e) tt
    request_named (Ok (Run command)) r = subst NamesAreLawful (sym r.outcome) (reply_named r.result)
    request_named (Ok (Document doc)) e = subst Named (sym e) (either_named old.source.is_closed _ _ tt (found_named _ _))
    request_named (Ok (Body name)) r = subst NamesAreLawful (sym r.outcome) (body_named r.result)
    request_named (Ok Status) e = subst Named (sym e) (either_named old.source.is_closed _ _ tt tt)
    request_named (Ok Verify) r = subst NamesAreLawful (sym r.outcome) (verify_named old.source answer.session.source _ r.result r.answers honest stands)
    request_named (Err refusal) e = subst Named (sym e) tt

    answer_named : (request : Result Request Refusal) (Room : Type 0) → AnswerGives device old request Room answer → Named answer
    unfolding Named
    answer_named request Room (inl gives) = request_named request gives
    answer_named request Room (inr (room, e)) = subst Named (sym e) tt

    line_named : (line : List ℕ) → LineGives device old line answer → Named answer
    unfolding Named
    line_named line (inl long) = subst Named (sym long.1) tt
    line_named line (inr (within, gives)) = answer_named (request_of line) (TakesRoom line) gives

    statement_named : (statement : Statement) → StatementGives device old statement answer → NamesAreLawful answer.outcome
    unfolding Named
    statement_named (single line) gives = line_named line gives
    statement_named (grouped first lines) gives = answer_named (request_by (grouped first lines)) (GroupTakesRoom lines) gives
    statement_named cut_off gives = request_named (request_by cut_off) gives

  -- the source after it holds a state, or is closed
  stands_on : (old : ScriptState (Stored D)) (statement : Statement) (answer : Answer (Stored D)) → StatementGives device old statement answer → Stands device old.source
      → Stands device answer.session.source
  stands_on old statement answer gives stands = by_closed answer.session.source.is_closed refl stands
    where
      by_closed : (b : Bool) → answer.session.source.is_closed ≡ b → Stands device old.source → Stands device answer.session.source
      by_closed true shut is = inr shut
      by_closed false free (inl (s, holds)) = inl (fold_of s answer.commands, (statement_follows device old answer statement gives).holds s holds free)
      by_closed false free (inr closed) = absurd (true≢false (sym closed ∙ (statement_follows device old answer statement gives).opened free))

  statements_named : (statements : List Statement) (old : ScriptState (Stored D)) (outcomes : List LineOutcome) (commands : List (Command × ℕ)) (new : ScriptState (Stored D))
      → Transcript device old statements outcomes commands new → IsTrue (device new.source.disk).honest → Stands device old.source → All NamesAreLawful outcomes
  statements_named [] old outcomes commands new t honest stands = subst (All NamesAreLawful) (sym t.0) (All-nil NamesAreLawful)
  statements_named (statement ∷ statements) old outcomes commands new t honest stands =
      let last = statements_last device statements t.0.session t.1 t.2 new t.6 honest in
      subst (All NamesAreLawful) (sym t.4)
      (All-cons NamesAreLawful t.0.outcome t.1 (statement_named old t.0 last stands statement t.3)
      (statements_named statements t.0.session t.1 t.2 new t.6 honest (stands_on old statement t.0 t.3 stands)))

  pub scripts_tell_names : ScriptsTellNames device
  scripts_tell_names old new input outcomes commands gives s holds honest = statements_named gives.0 old outcomes commands new gives.2 honest (inl (s, holds))
