-- The effect of a command on a source, as a walk.
use Rattle.std.proofs.Common.{◌≡◌, ◌⊎◌, inl, inr, ⊎_elim, true≢false, ℕ, Bool, true, false, List, [], ◌∷◌, ◌++◌, refl, sym, ◌∙◌, ap, subst, cond, Option, Some, None, Result, Ok, Err}
use Rattle.rs_disk.specs.Medium.{DiskState, IsMedium}
use Rattle.rs_recovery.proofs.FromBelow.{exit_images}
use Rattle.rs_model.specs.State.{Source}
use Rattle.rs_model.specs.Step.{step, state_after, next_state, accepted_unless, refusal_of, reply_to, moment_at}
use Rattle.rs_model.specs.Walk.{after_event, walk_of}
use Rattle.rs_model.specs.declared.command.Command.{Command}
use Rattle.rs_model.specs.declared.command.Reply.{Reply}
use Rattle.rs_model.specs.declared.command.Refusal as model
use Rattle.rs_model.specs.declared.command.Refusal.TheVariants as decides
use Rattle.rs_model.specs.declared.event.Event.{Event}
use Rattle.rs_model.specs.declared.event.Event.TheVariants.{Tried, Refused, Stopped}
use Rattle.rs_image.specs.StateOfImage.{StandsFor}
use Rattle.rs_store.specs.Answered.{Answers}
use Rattle.rs_store.specs.Laws.{HeldStands}
use Rattle.rs_store.specs.Refusals.{named_as, is_spent, or_spent, decided}
use Rattle.rs_store.specs.Source.{Stored, Holds, state_of}
use Rattle.rs_store.specs.declared.refusal.Refusal.{Refusal}
use Rattle.rs_store.specs.declared.refusal.Refusal.TheVariants.{Closed, Device}
use Rattle.rs_recovery.specs.Walked.{ModelRefuses, RefusalEvents, CommandEvents, LeavesWalk, CommandsMakeWalks, ClosedCommandsAreRefused}

abbrev Kind : Type 1
Kind = List Event → Type 0

-- other words for the events of a walk
pub walk_is : {D : Type 0} (device : D → DiskState) (s : Source) (M N : Kind) (new : Stored D) → ((events : List Event) → M events → N events)
    → LeavesWalk device s M new → LeavesWalk device s N new
walk_is device s M N new are walk = record {
  held = λ free. let w = walk.held free in (w.0, are w.0 w.1, w.2);
  at_exit = λ image is. let w = walk.at_exit image is in (w.0, are w.0 w.1, w.2);
}

walk-append : (s : Source) (first more : List Event) → walk_of s (first ++ more) ≡ walk_of (walk_of s first) more
walk-append s [] more = refl
walk-append s (event ∷ first) more = walk-append (after_event s event) first more

-- some events, and then a walk from the state after them
pub walk_behind : {D : Type 0} (device : D → DiskState) (s : Source) (first : List Event) (M N : Kind) (new : Stored D)
    → ((events : List Event) → M events → N (first ++ events)) → LeavesWalk device (walk_of s first) M new → LeavesWalk device s N new
walk_behind device s first M N new are walk = record {
  held = λ free.
      let w = walk.held free in
      (first ++ w.0, are w.0 w.1, subst (Holds device new) (sym (walk-append s first w.0)) w.2);
  at_exit = λ image is.
      let w = walk.at_exit image is in
      (first ++ w.0, are w.0 w.1, subst (StandsFor image) (sym (walk-append s first w.0)) w.2);
}

-- a source's lists have the state that it holds
pub told : {D : Type 0} (device : D → DiskState) (sound : (disk : D) → IsMedium (device disk).size (device disk).now) (source : Stored D) (s : Source)
    → Holds device source s → state_of device source ≡ s
told device sound source s holds = (holds.tells (device source.disk).now.seen (sound source.disk).image).state

-- a source holds the state after these events
pub walked : {D : Type 0} (device : D → DiskState) → HeldStands device → (s : Source) (M : Kind) (new : Stored D) (events : List Event)
    → M events → Holds device new (walk_of s events) → LeavesWalk device s M new
walked device stands s M new events are holds = record {
  held = λ free. (events, are, holds);
  at_exit = λ image is. (events, are, stands new (walk_of s events) holds image is);
}

module _ {D : Type 0} (device : D → DiskState) (sound : (disk : D) → IsMedium (device disk).size (device disk).now) (stands : HeldStands device) where
  module _ (old new : Stored D) (s : Source) (command : Command) (now : ℕ) (holds : Holds device old s) where
    -- an open source refuses every command that the model refuses
    decides_so : (reason : model.Refusal) → refusal_of s command now ≡ Some reason → decided old (state_of device old) command now ≡ Some (named_as reason)
    decides_so reason is =
        ap (λ (t : Source). decided old t command now) (told device sound old s holds)
        ∙ ap (λ (b : Bool). cond b (Some Closed) (or_spent (refusal_of s command now) (is_spent old))) holds.is_open
        ∙ ap (λ (found : Option model.Refusal). or_spent found (is_spent old)) is

    -- and its step does not change the state
    no_step : (reason : model.Refusal) → refusal_of s command now ≡ Some reason → s ≡ state_after s (step s command now)
    no_step reason is =
        let t = moment_at s now in
        sym (ap (λ (found : Option model.Refusal). state_after s (accepted_unless found (next_state s command t, reply_to s command t))) is)

    named : (refusal : Refusal) (reason : model.Refusal) → Answers device old new command now (Err refusal)
        → refusal_of s command now ≡ Some reason → named_as reason ≡ refusal
    named refusal reason answers is = let same = answers.decides (named_as reason) (decides_so reason is) in cc

    by_model : (refusal : Refusal) (found : Option model.Refusal) → refusal_of s command now ≡ found → Answers device old new command now (Err refusal)
        → Holds device new s → LeavesWalk device s (RefusalEvents s command now refusal) new
    by_model refusal None none answers held =
        walked device stands s (RefusalEvents s command now refusal) new (Refused command ∷ [])
        (inr ((λ (m : ModelRefuses s command now refusal). let some = m.1 in absurd cc), refl)) held
    by_model refusal (Some reason) is answers held =
        walked device stands s (RefusalEvents s command now refusal) new (Tried command now ∷ [])
        (inl ((reason, is, named refusal reason answers is), refl)) (subst (Holds device new) (no_step reason is) held)

    refused : (refusal : Refusal) → Answers device old new command now (Err refusal) → Holds device new s → LeavesWalk device s (RefusalEvents s command now refusal) new
    refused refusal answers held = by_model refusal (refusal_of s command now) refl answers held

    -- the device failed within the command
    stopped : Answers device old new command now (Err Device) → LeavesWalk device s (CommandEvents s command now (Err Device)) new
    stopped answers =
        let next : Source = state_after s (step s command now) in
        let shut : new.is_closed ≡ true = answers.closes refl in
        record {
          held = λ free. absurd (true≢false (sym shut ∙ free));
          at_exit = λ image is. ⊎_elim
              (λ at. (Stopped command now false ∷ [], (false, refl), at))
              (λ at. (Stopped command now true ∷ [], (true, refl), at))
              (exit_images (device old.disk) (device new.disk) (λ _ image. StandsFor image s ⊎ StandsFor image next) (answers.leads s holds) image is);
        }

    by_answer : (result : Result Reply Refusal) → Answers device old new command now result → LeavesWalk device s (CommandEvents s command now result) new
    by_answer (Ok reply) answers =
        let lead = answers.leads s holds in
        walked device stands s (CommandEvents s command now (Ok reply)) new (Tried command now ∷ []) refl (subst (Holds device new) (sym (ap (state_after s) lead.1)) lead.2)
    by_answer (Err Device) answers = stopped answers
    by_answer (Err refusal) answers = refused refusal answers (answers.leads s holds).0

  pub commands_walk : CommandsMakeWalks device
  commands_walk old new s command now result holds answers = by_answer old new s command now holds result answers

-- the model closes no source
never_closed : (reason : model.Refusal) → named_as reason ≡ Closed → ⊥
never_closed decides.BadGroup is = cc
never_closed reason is = cc

closed_events : (s : Source) (command : Command) (now : ℕ) (result : Result Reply Refusal) → result ≡ Err Closed → CommandEvents s command now result (Refused command ∷ [])
closed_events s command now result is =
    subst (λ (r : Result Reply Refusal). CommandEvents s command now r (Refused command ∷ [])) (sym is)
    (inr ((λ (m : ModelRefuses s command now Closed). never_closed m.0 m.2), refl))

pub closed_commands : {D : Type 0} (device : D → DiskState) → ClosedCommandsAreRefused device
closed_commands device old new s command now result shut answers =
    let why : decided old (state_of device old) command now ≡ Some Closed =
    ap (λ (b : Bool). cond b (Some Closed) (or_spent (refusal_of (state_of device old) command now) (is_spent old))) shut in
    let is : result ≡ Err Closed = answers.decides Closed why in
    (is, answers.untouched Closed why, closed_events s command now result is)
