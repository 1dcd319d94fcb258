-- Commands of a run are answered as the model does, and as the disk sees it.
use Rattle.std.proofs.Common.{◌≡◌, ◌⊎◌, inl, inr, ℕ, Bool, true, false, List, [], ◌∷◌, refl, sym, ◌∙◌, ap, subst, cond, Option, Some, None, Result, Ok, Err}
use Rattle.std.specs.Prelude.{MatchOption}
use Rattle.rs_disk.specs.Medium.{Medium, DiskState, IsMedium, IsImage}
use Rattle.rs_disk.specs.Leaves.{Leaves}
use Rattle.rs_disk.specs.Runs.{Rests}
use Rattle.rs_model.specs.State.{Source}
use Rattle.rs_model.specs.Step.{step, state_after, refusal_of}
use Rattle.rs_model.specs.declared.command.Command.{Command}
use Rattle.rs_model.specs.declared.command.Reply.{Reply}
use Rattle.rs_model.specs.declared.command.Refusal as model
use Rattle.rs_image.specs.StateOfImage.{StandsFor}
use Rattle.rs_store.specs.declared.refusal.Refusal.{Refusal}
use Rattle.rs_store.specs.declared.refusal.Refusal.TheVariants.{Closed, Exhausted, Full, ReadFault, ShortBody, Device, Damaged, NoMemory}
use Rattle.rs_store.specs.Source.{Stored, Holds, state_of}
use Rattle.rs_store.specs.Refusals.{decided, named_as, is_spent, or_spent}
use Rattle.rs_store.specs.Commands.{IsCause}
use Rattle.rs_store.specs.Answered.{Answers}
use Rattle.rs_store.specs.declared.running.Ack.{Ack}
use Rattle.rs_store.specs.Runs.{InTurn, StandsForPrefix, IsBeyondModel, MayAnswer, Holding, InDoubt, MayStandFor, condition_after, condition_behind, AreAnswered}
use Rattle.rs_store.proofs.FromBelow.{started, weaker, exit_images}
use Rattle.rs_store.proofs.Turns.{Commands, Acks}
use Rattle.rs_store.proofs.Moments.{answered_leave_prefixes}

-- if the model refuses nothing, a source decides only Exhausted
spent_alone : (spent : Bool) (refusal : Refusal) → or_spent None spent ≡ Some refusal → IsBeyondModel refusal
spent_alone true refusal is = let same : Exhausted ≡ refusal = cc in subst IsBeyondModel same tt
spent_alone false refusal is = absurd cc

abbrev refused_as : Refusal → Result Reply Refusal
refused_as refusal = Err refusal

same_refusal : (one two : Refusal) → refused_as one ≡ refused_as two → one ≡ two
same_refusal one two is = cc

-- a doubt stays
pub doubt_stays : (s next : Source) (cs : Commands) (acks : Acks) (t : Source) → condition_behind (InDoubt s next) cs acks ≡ Holding t → ⊥
doubt_stays s next [] acks t is = cc
doubt_stays s next (c ∷ cs) [] t is = cc
doubt_stays s next (c ∷ cs) (a ∷ acks) t is = doubt_stays s next cs acks t is

pub held_is : (s t : Source) → Holding s ≡ Holding t → s ≡ t
held_is s t is = cc

module _ {D : Type 0} (device : D → DiskState) (sound : (disk : D) → IsMedium (device disk).size (device disk).now) where
  -- its lists determine the state that it holds
  told_state : (source : Stored D) (s : Source) → Holds device source s → state_of device source ≡ s
  told_state source s holds = (holds.tells (device source.disk).now.seen (sound source.disk).image).state

  module _ (old new : Stored D) (s : Source) (holds : Holds device old s) (command : Command) (now : ℕ) where
    decides : (x : Option model.Refusal) → refusal_of s command now ≡ x → decided old (state_of device old) command now ≡ or_spent x (is_spent old)
    decides x is =
        ap (λ (t : Source). decided old t command now) (told_state old s holds)
        ∙ (λ i. cond (holds.is_open i) (Some Closed) (or_spent (is i) (is_spent old)))

    of_machine : refusal_of s command now ≡ None → (refusal : Refusal) → IsCause device old new command now refusal → IsBeyondModel refusal
    of_machine none Exhausted cause = tt
    of_machine none Full cause = tt
    of_machine none Device cause = tt
    of_machine none NoMemory cause = tt
    of_machine none ReadFault cause = absurd cause
    of_machine none ShortBody cause = absurd cause
    of_machine none Damaged cause = absurd cause
    of_machine none refusal cause = spent_alone (is_spent old) refusal (sym (decides None none) ∙ cause)

    by_model : (refusal : Refusal) → Answers device old new command now (Err refusal) → (x : Option model.Refusal) → refusal_of s command now ≡ x
        → MatchOption x (IsBeyondModel refusal) (λ r. refusal ≡ named_as r)
    by_model refusal answers None is = of_machine is refusal (answers.refused refusal refl)
    by_model refusal answers (Some r) is = same_refusal refusal (named_as r) (answers.decides (named_as r) (decides (Some r) is))

    pub may_answer : (reply : Result Reply Refusal) → Answers device old new command now reply → MayAnswer s command now reply
    may_answer (Ok reply) answers = let lead = answers.leads s holds in (lead.0, lead.1)
    may_answer (Err refusal) answers = by_model refusal answers (refusal_of s command now) refl

  -- a resting disk leaves every property that all of its images have at the start
  rests_in : (old new : DiskState) (P : List ℕ → Type 0) → Rests old new → ((image : List ℕ) → IsImage old.now image → P image) → Leaves old new (λ _. P)
  rests_in old new P rests all = weaker old new (λ _. IsImage old.now) (λ _. P) (λ m image is. all image is) rests.leaves

  -- a closed source changes nothing
  closed_answered : (s t : Source) (old : Stored D) (cs : Commands) (acks : Acks) (new : Stored D) → old.is_closed ≡ true
      → ((image : List ℕ) → IsImage (device old.disk).now image → MayStandFor (InDoubt s t) image) → InTurn device old cs acks new
      → AreAnswered (device old.disk) (InDoubt s t) cs acks (device new.disk)
  closed_answered s t old [] [] new shut all turn = rests_in (device old.disk) (device new.disk) (MayStandFor (InDoubt s t)) (turn.rests shut) all
  closed_answered s t old (c ∷ cs) (a ∷ acks) new shut all turn =
      let ready : Stored D = turn.0 in
      let mid : Stored D = turn.2 in
      let P : List ℕ → Type 0 = MayStandFor (InDoubt s t) in
      let idle = turn.1.rests shut in
      let still : ready.is_closed ≡ true = turn.1.is_closed ∙ shut in
      let there : (image : List ℕ) → IsImage (device ready.disk).now image → P image = λ image is. all image (subst (λ (m : Medium). IsImage m image) idle.now is) in
      let is : decided ready (state_of device ready) c.0 c.1 ≡ Some Closed = ap (λ (b : Bool). cond b (Some Closed) (or_spent (refusal_of (state_of device ready) c.0 c.1) (is_spent ready))) still in
      let same : mid ≡ ready = turn.3.untouched Closed is in
      let none : Leaves (device ready.disk) (device mid.disk) (λ _. P) =
      subst (λ (x : Stored D). Leaves (device ready.disk) (device x.disk) (λ _. P)) (sym same) (started (device ready.disk) (λ _. P) there) in
      let then : (image : List ℕ) → IsImage (device mid.disk).now image → P image =
      subst (λ (x : Stored D). (image : List ℕ) → IsImage (device x.disk).now image → P image) (sym same) there in (
        device mid.disk,
        record {
          ready = device ready.disk;
          idle = rests_in (device old.disk) (device ready.disk) P idle all;
          within = weaker (device ready.disk) (device mid.disk) (λ _. P) (λ _ image. P image ⊎ P image) (λ m image stands. inl stands) none;
          reply = turn.3.decides Closed is;
          at_call = turn.4;
        },
        closed_answered s t mid cs acks new (ap (λ (x : Stored D). x.is_closed) same ∙ still) then turn.5,
      )
  closed_answered s t old cs acks new shut all turn = absurd turn

  -- a turn of a source that holds a state: the source when the command comes, and the source after it
  module _ (s : Source) (old : Stored D) (c : Command × ℕ) (cs : Commands) (a : Ack) (acks : Acks) (new : Stored D)
      (holds : Holds device old s) (turn : InTurn device old (c ∷ cs) (a ∷ acks) new) where
    abbrev ready : Stored D
    ready = turn.0

    abbrev mid : Stored D
    mid = turn.2

    abbrev next : Source
    next = state_after s (step s c.0 c.1)

    kept : Holds device ready s
    kept = (turn.1.holds s holds).0

    -- the turn, as its disk sees it
    seen_by : (reply : Result Reply Refusal) → Answers device ready mid c.0 c.1 reply
        → ((t : Source) → Holds device mid t → AreAnswered (device mid.disk) (Holding t) cs acks (device new.disk))
        → Leaves (device ready.disk) (device mid.disk) (λ _ image. StandsFor image s ⊎ MayStandFor (condition_after (Holding s) c reply) image)
        × AreAnswered (device mid.disk) (condition_after (Holding s) c reply) cs acks (device new.disk)
    seen_by (Ok reply) answers rest =
        let lead = answers.leads s kept in
        subst (λ (t : Source). Leaves (device ready.disk) (device mid.disk) (λ _ image. StandsFor image s ⊎ StandsFor image t) × AreAnswered (device mid.disk) (Holding t) cs acks (device new.disk))
        (sym (ap (state_after s) lead.1)) (lead.3, rest lead.0 lead.2)
    seen_by (Err Device) answers rest =
        let within : Leaves (device ready.disk) (device mid.disk) (λ _. MayStandFor (InDoubt s next)) = answers.leads s kept in (
          weaker (device ready.disk) (device mid.disk) (λ _. MayStandFor (InDoubt s next)) (λ _ image. StandsFor image s ⊎ MayStandFor (InDoubt s next) image) (λ m image stands. inr stands) within,
          closed_answered s next mid cs acks new (answers.closes refl) (exit_images (device ready.disk) (device mid.disk) (λ _. MayStandFor (InDoubt s next)) within) turn.5,
        )
    seen_by (Err refusal) answers rest =
        let lead = answers.leads s kept in
        (weaker (device ready.disk) (device mid.disk) (λ _ image. StandsFor image s) (λ _ image. StandsFor image s ⊎ StandsFor image s) (λ m image stands. inl stands) lead.1, rest s lead.0)

    -- the state that it holds then, where the answers leave no doubt
    kept_by : (reply : Result Reply Refusal) → Answers device ready mid c.0 c.1 reply → (t : Source)
        → ((u : Source) → Holds device mid u → condition_behind (Holding u) cs acks ≡ Holding t → Holds device new t)
        → condition_behind (condition_after (Holding s) c reply) cs acks ≡ Holding t → Holds device new t
    kept_by (Ok reply) answers t rest is =
        let lead = answers.leads s kept in
        rest next (subst (Holds device mid) (sym (ap (state_after s) lead.1)) lead.2) is
    kept_by (Err Device) answers t rest is = absurd (doubt_stays s next cs acks t is)
    kept_by (Err refusal) answers t rest is = rest s (answers.leads s kept).0 is

  -- The commands of a run are answered, as the disk sees it.
  pub are_answered : (s : Source) (old : Stored D) (cs : Commands) (acks : Acks) (new : Stored D) → Holds device old s → InTurn device old cs acks new
      → AreAnswered (device old.disk) (Holding s) cs acks (device new.disk)
  are_answered s old [] [] new holds turn = (turn.holds s holds).1
  are_answered s old (c ∷ cs) (a ∷ acks) new holds turn =
      let next = seen_by s old c cs a acks new holds turn a.reply turn.3 (λ t held. are_answered t turn.2 cs acks new held turn.5) in (
        device turn.2.disk,
        record {
          ready = device turn.0.disk;
          idle = (turn.1.holds s holds).1;
          within = next.0;
          reply = may_answer turn.0 turn.2 s (turn.1.holds s holds).0 c.0 c.1 a.reply turn.3;
          at_call = turn.4;
        },
        next.1,
      )
  are_answered s old cs acks new holds turn = absurd turn

  -- The source holds the state that the answers leave.
  pub holds_behind : (s : Source) (old : Stored D) (cs : Commands) (acks : Acks) (new : Stored D) → Holds device old s → InTurn device old cs acks new
      → (t : Source) → condition_behind (Holding s) cs acks ≡ Holding t → Holds device new t
  holds_behind s old [] [] new holds turn t is = subst (Holds device new) (held_is s t is) (turn.holds s holds).0
  holds_behind s old (c ∷ cs) (a ∷ acks) new holds turn t is =
      kept_by s old c cs a acks new holds turn a.reply turn.3 t (λ u held same. holds_behind u turn.2 cs acks new held turn.5 t same) is
  holds_behind s old cs acks new holds turn t is = absurd turn

  -- at every moment of a run, every image represents a prefix of its counted commands
  pub each_moment : (s : Source) (old : Stored D) (cs : Commands) (acks : Acks) (new : Stored D) → Holds device old s → InTurn device old cs acks new
      → Leaves (device old.disk) (device new.disk) (StandsForPrefix s cs acks)
  each_moment s old cs acks new holds turn = answered_leave_prefixes s (device old.disk) cs acks (device new.disk) (are_answered s old cs acks new holds turn)
