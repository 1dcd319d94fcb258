-- A session may lack its last answer.
use Rattle.std.proofs.Common.{◌≡◌, ◌⊎◌, inl, inr, ℕ, List, [], ◌∷◌, ◌++◌, refl, sym, subst, Option, Some, None, Result, Ok, Err}
use Rattle.std.specs.Prelude.{MatchOption}
use Rattle.rs_disk.specs.Medium.{DiskState}
use Rattle.rs_disk.specs.Leaves.{Leaves}
use Rattle.rs_model.specs.State.{Source}
use Rattle.rs_model.specs.Step.{step, state_after, refusal_of}
use Rattle.rs_model.specs.declared.command.Command.{Command}
use Rattle.rs_model.specs.declared.command.Reply.{Reply}
use Rattle.rs_model.specs.declared.command.Refusal as model
use Rattle.rs_image.specs.StateOfImage.{StandsFor}
use Rattle.rs_store.specs.declared.refusal.Refusal.{Refusal}
use Rattle.rs_store.specs.declared.refusal.Refusal.TheVariants.{Device}
use Rattle.rs_store.specs.declared.running.Ack.{Ack}
use Rattle.rs_store.specs.Refusals.{named_as}
use Rattle.rs_store.specs.Runs.{Condition, Holding, InDoubt, MayStandFor, IsBeyondModel, condition_after, condition_behind, AreAnswered}
use Rattle.rs_recovery.specs.Sessions.{AnswersMayBeMissing}
use Rattle.rs_recovery.proofs.Below.{Commands, Acks, weaker}
use Rattle.rs_recovery.proofs.FromBelow.{exit_images, goes_on, started}

-- a command that the model accepts may be answered Device
may_fail : (o : Option model.Refusal) → o ≡ None → MatchOption o (IsBeyondModel Device) (λ r. Device ≡ named_as r)
may_fail None is = tt
may_fail (Some r) is = absurd cc

-- within a command every image is of the source before it, or after it if it is accepted
within_doubt : (s : Source) (c : Command × ℕ) (reply : Result Reply Refusal) (image : List ℕ)
    → StandsFor image s ⊎ MayStandFor (condition_after (Holding s) c reply) image → MayStandFor (InDoubt s (state_after s (step s c.0 c.1))) image
within_doubt s c reply image (inl stands) = inl stands
within_doubt s c (Ok reply) image (inr stands) = inr stands
within_doubt s c (Err Device) image (inr stands) = stands
within_doubt s c (Err refusal) image (inr stands) = inl stands

-- after a command every image is one that a doubt allows
behind_doubt : (s : Source) (c : Command × ℕ) (reply : Result Reply Refusal) (image : List ℕ)
    → MayStandFor (condition_after (Holding s) c reply) image → MayStandFor (InDoubt s (state_after s (step s c.0 c.1))) image
behind_doubt s c reply image stands = within_doubt s c reply image (inr stands)

-- the last command, without its answer
last_missing : (t : Source) (c : Command × ℕ) (a : Ack) (old last : DiskState) → refusal_of t c.0 c.1 ≡ None → AreAnswered old (Holding t) (c ∷ []) (a ∷ []) last
    → AreAnswered old (Holding t) (c ∷ []) (record { reply = Err Device; at_call = last.calls } ∷ []) last
last_missing t c a old last none all =
    let Doubt : List ℕ → Type 0 = MayStandFor (InDoubt t (state_after t (step t c.0 c.1))) in
    let mid : DiskState = all.0 in
    let ready : DiskState = all.1.ready in
    let within : Leaves ready mid (λ _. Doubt) =
    weaker ready mid (λ _ image. StandsFor image t ⊎ MayStandFor (condition_after (Holding t) c a.reply) image) (λ _. Doubt) (λ m image is. within_doubt t c a.reply image is) all.1.within in
    let behind : Leaves mid last (λ _. Doubt) = weaker mid last (λ _. MayStandFor (condition_after (Holding t) c a.reply)) (λ _. Doubt) (λ m image is. behind_doubt t c a.reply image is) all.2 in
    let whole : Leaves ready last (λ _. Doubt) = goes_on ready mid last (λ _. Doubt) within behind in (
      last,
      record {
        ready = ready;
        idle = all.1.idle;
        within = weaker ready last (λ _. Doubt) (λ _ image. StandsFor image t ⊎ Doubt image) (λ m image is. inr is) whole;
        reply = may_fail (refusal_of t c.0 c.1) none;
        at_call = refl;
      },
      started last (λ _. Doubt) (λ image is. exit_images ready last (λ _. Doubt) whole image is),
    )

-- the same after commands that leave the source holding a state
missing_behind : (is : Condition) (old : DiskState) (cs : Commands) (acks : Acks) (c : Command × ℕ) (a : Ack) (last : DiskState)
    → AreAnswered old is (cs ++ c ∷ []) (acks ++ a ∷ []) last → (t : Source) → condition_behind is cs acks ≡ Holding t → refusal_of t c.0 c.1 ≡ None
    → AreAnswered old is (cs ++ c ∷ []) (acks ++ record { reply = Err Device; at_call = last.calls } ∷ []) last
missing_behind is old [] [] c a last all t same none =
    subst (λ (k : Condition). AreAnswered old k (c ∷ []) (record { reply = Err Device; at_call = last.calls } ∷ []) last) (sym same)
    (last_missing t c a old last none (subst (λ (k : Condition). AreAnswered old k (c ∷ []) (a ∷ []) last) same all))
missing_behind is old (x ∷ cs) (y ∷ acks) c a last all t same none =
    (all.0, all.1, missing_behind (condition_after is x y.reply) all.0 cs acks c a last all.2 t same none)
missing_behind is old [] (y ∷ []) c a last all t same none = absurd all.2
missing_behind is old [] (y ∷ z ∷ acks) c a last all t same none = absurd all.2
missing_behind is old (x ∷ []) [] c a last all t same none = absurd all.2
missing_behind is old (x ∷ z ∷ cs) [] c a last all t same none = absurd all.2

pub answers_may_be_missing : AnswersMayBeMissing
answers_may_be_missing first s t commands acks c a last stop image all same none is_stop =
    record { answered = missing_behind (Holding s) first commands acks c a last all t same none; stopped = is_stop }
