-- All moments of answered commands, and the effect of a run at its end.
use Rattle.std.proofs.Common.{◌≡◌, ◌⊎◌, inl, inr, ⊎_elim, ℕ, suc, ◌+◌, ◌<◌, ◌≤◌, Bool, true, false, ◌&&◌, List, [], ◌∷◌, ◌++◌, take, refl, sym, ◌∙◌, ap, subst, arith, cond, Result, Ok, Err, true≢false}
use Rattle.std.specs.Prelude.{nat_le}
use Rattle.rs_disk.specs.Medium.{DiskState}
use Rattle.rs_disk.specs.Leaves.{Leaves}
use Rattle.rs_store.proofs.FromBelow.{goes_further, weaker}
use Rattle.rs_model.specs.State.{Source}
use Rattle.rs_model.specs.Step.{step, state_after, fold_of}
use Rattle.rs_model.specs.declared.command.Command.{Command}
use Rattle.rs_model.specs.declared.command.Reply.{Reply}
use Rattle.rs_image.specs.StateOfImage.{StandsFor}
use Rattle.rs_store.specs.declared.refusal.Refusal.{Refusal}
use Rattle.rs_store.specs.declared.refusal.Refusal.TheVariants.{Device}
use Rattle.rs_store.specs.Source.{Stored, Holds}
use Rattle.rs_store.specs.Commands.{Leads}
use Rattle.rs_store.specs.Answered.{Answers}
use Rattle.rs_store.specs.declared.running.Ack.{Ack}
use Rattle.rs_store.specs.Counted.{is_accepted, is_device, is_in_doubt, answered, counted_commands, acknowledged, begun}
use Rattle.rs_store.specs.Runs.{InTurn, StandsForPrefix, Condition, Holding, InDoubt, MayStandFor, condition_after, AreAnswered}
use Rattle.rs_store.specs.Laws.{AreClosed}
use Rattle.rs_store.proofs.Turns.{Commands, Acks, one, one_at_most, and_false, not_yet, by_then, acknowledged_cons, closed_run, none_counts, none_acknowledged, closed_is_no_ok, closed_is_no_device}

-- The effect of a command with any refusal but Device.
pub not_done : {D : Type 0} (device : D → DiskState) (old new : Stored D) (s : Source) (command : Command) (now : ℕ) (refusal : Refusal)
    → is_device (Err refusal) ≡ false → Leads device old new s (step s command now) (Err refusal)
    → Holds device new s × Leaves (device old.disk) (device new.disk) (λ _ image. StandsFor image s)
not_done {D} device old new s command now Device other lead = absurd (true≢false other)
not_done {D} device old new s command now refusal other lead = lead

-- a refusal is Device or it is not
pub is_device_or_not : (refusal : Refusal) → (refusal ≡ Device) ⊎ (is_device (Err refusal) ≡ false)
is_device_or_not Device = inl refl
is_device_or_not refusal = inr refl

abbrev ack : Result Reply Refusal → ℕ → Ack
ack reply n = record { reply = reply; at_call = n }

-- the count of calls does not fall
pub answered_rise : (old : DiskState) (is : Condition) (cs : Commands) (acks : Acks) (new : DiskState) → AreAnswered old is cs acks new → old.calls ≤ new.calls
answered_rise old is [] [] new all = all.later
answered_rise old is (c ∷ cs) (a ∷ acks) new all =
    omega (arith, all.1.idle.later, all.1.within.later, answered_rise all.0 (condition_after is c a.reply) cs acks new all.2)
answered_rise old is cs acks new all = absurd all

-- before the first call nothing was acknowledged
none_before : (m : ℕ) (old : DiskState) (is : Condition) (cs : Commands) (acks : Acks) (new : DiskState) → AreAnswered old is cs acks new → m < old.calls → acknowledged m acks ≡ 0
none_before m old is [] [] new all lt = refl
none_before m old is (c ∷ cs) (a ∷ acks) new all lt =
    let mid : DiskState = all.0 in
    let early : m < mid.calls = omega (arith, lt, all.1.idle.later, all.1.within.later) in
    let at : a.at_call ≡ mid.calls = all.1.at_call in
    let here : one (is_accepted a && nat_le a.at_call m) ≡ 0 = ap (λ (b : Bool). one (is_accepted a && b)) (not_yet m a.at_call (omega (arith, early, at))) ∙ and_false (is_accepted a) in
    omega (arith, here, none_before m mid (condition_after is c a.reply) cs acks new all.2 early, acknowledged_cons m a acks)
none_before m old is cs acks new all lt = absurd all

-- a closed source answers Closed to all, and the command in doubt stays in doubt
pub all_closed : (old : DiskState) (s t : Source) (cs : Commands) (acks : Acks) (new : DiskState) → AreAnswered old (InDoubt s t) cs acks new → AreClosed acks
all_closed old s t [] [] new all = tt
all_closed old s t (c ∷ cs) (a ∷ acks) new all = (all.1.reply, all_closed all.0 s t cs acks new all.2)
all_closed old s t cs acks new all = absurd all

stays_in_doubt : (old : DiskState) (s t : Source) (cs : Commands) (acks : Acks) (new : DiskState) → AreAnswered old (InDoubt s t) cs acks new
    → Leaves old new (λ _. MayStandFor (InDoubt s t))
stays_in_doubt old s t [] [] new all = all
stays_in_doubt old s t (c ∷ cs) (a ∷ acks) new all =
    let P : ℕ → List ℕ → Type 0 = λ _. MayStandFor (InDoubt s t) in
    let Either : ℕ → List ℕ → Type 0 = λ m image. P m image ⊎ P m image in
    goes_further old all.1.ready new P P all.1.idle (λ m image lt stands. stands)
    (goes_further all.1.ready all.0 new Either P all.1.within (λ m image lt either. ⊎_elim (λ x. x) (λ x. x) either) (stays_in_doubt all.0 s t cs acks new all.2))
stays_in_doubt old s t cs acks new all = absurd all

module _ (s : Source) (old mid new : DiskState) (c : Command × ℕ) (cs : Commands) (acks : Acks) (n : ℕ) (at : n ≡ mid.calls)
    (none_yet : (m : ℕ) → m < mid.calls → acknowledged m acks ≡ 0) where
  abbrev next : Source
  next = state_after s (step s c.0 c.1)

  abbrev Before : Result Reply Refusal → ℕ → List ℕ → Type 0
  Before reply = StandsForPrefix s (c ∷ cs) (ack reply n ∷ acks)

  unanswered : (reply : Result Reply Refusal) (m : ℕ) → m < mid.calls → acknowledged m (ack reply n ∷ acks) ≡ 0
  unanswered reply m lt =
      let here : one (is_accepted (ack reply n) && nat_le n m) ≡ 0 = ap (λ (b : Bool). one (is_accepted (ack reply n) && b)) (not_yet m n (omega (arith, lt, at))) ∙ and_false (is_accepted (ack reply n)) in
      omega (arith, here, none_yet m lt, acknowledged_cons m (ack reply n) acks)

  -- the old state, before the first acknowledgement
  at_first : (reply : Result Reply Refusal) (m : ℕ) (image : List ℕ) → acknowledged m (ack reply n ∷ acks) ≡ 0 → StandsFor image s → Before reply m image
  at_first reply m image none stands = record { j = 0; least = omega (arith, none); most = omega arith; stands = stands }

  -- the next state, before an accepted command is answered
  at_next : (reply : Reply) (m : ℕ) (image : List ℕ) → m < mid.calls → StandsFor image next → Before (Ok reply) m image
  at_next reply m image lt stands = record { j = 1; least = omega (arith, unanswered (Ok reply) m lt); most = omega arith; stands = stands }

  -- the commands after an accepted one
  more : (reply : Reply) (m : ℕ) (image : List ℕ) → n ≤ m → StandsForPrefix next cs acks m image → Before (Ok reply) m image
  more reply m image le p = record {
    j = suc p.j;
    least = omega (arith, p.least, one_at_most (nat_le n m), acknowledged_cons m (ack (Ok reply) n) acks);
    most = (let all : begun m (ack (Ok reply) n ∷ acks) ≡ 1 + begun m acks = ap (λ (b : Bool). 1 + cond b (begun m acks) 0) (by_then m n le) in omega (arith, all, p.most));
    stands = p.stands;
  }

  accepted : (reply : Reply) → Leaves old mid (λ _ image. StandsFor image s ⊎ StandsFor image next)
      → Leaves mid new (StandsForPrefix next cs acks) → Leaves old new (Before (Ok reply))
  accepted reply within rest =
      goes_further old mid new (λ _ image. StandsFor image s ⊎ StandsFor image next) (Before (Ok reply)) within
      (λ m image lt either. ⊎_elim (at_first (Ok reply) m image (unanswered (Ok reply) m lt)) (at_next reply m image lt) either)
      (record { later = rest.later; before = rest.before; each = λ m image ge le left. more reply m image (omega (arith, ge, at)) (rest.each m image ge le left) })

  -- the commands after a refused one whose answer is not Device
  still : (refusal : Refusal) → is_device (Err refusal) ≡ false → (m : ℕ) (image : List ℕ) → n ≤ m → StandsForPrefix s cs acks m image → Before (Err refusal) m image
  still refusal other m image le p = record {
    j = p.j;
    least = omega (arith, p.least, acknowledged_cons m (ack (Err refusal) n) acks);
    most = (let all : begun m (ack (Err refusal) n ∷ acks) ≡ 0 + begun m acks = (λ i. one (other i) + cond (by_then m n le i) (begun m acks) 0) in omega (arith, all, p.most));
    stands = subst (λ (l : Commands). StandsFor image (fold_of s (take p.j (answered is_accepted cs acks ++ l)))) (sym (ap (λ (b : Bool). cond b (c ∷ answered is_in_doubt cs acks) (answered is_in_doubt cs acks)) other)) p.stands;
  }

  refused : (refusal : Refusal) → is_device (Err refusal) ≡ false → Leaves old mid (λ _ image. StandsFor image s ⊎ StandsFor image s)
      → Leaves mid new (StandsForPrefix s cs acks) → Leaves old new (Before (Err refusal))
  refused refusal other within rest =
      goes_further old mid new (λ _ image. StandsFor image s ⊎ StandsFor image s) (Before (Err refusal)) within
      (λ m image lt either. at_first (Err refusal) m image (unanswered (Err refusal) m lt) (⊎_elim (λ x. x) (λ x. x) either))
      (record { later = rest.later; before = rest.before; each = λ m image ge le left. still refusal other m image (omega (arith, ge, at)) (rest.each m image ge le left) })

  -- the device failed, and all later answers are Closed
  failed : Leaves old mid (λ _ image. StandsFor image s ⊎ MayStandFor (InDoubt s next) image) → AreAnswered mid (InDoubt s next) cs acks new
      → Leaves old new (Before (Err Device))
  failed within rest =
      goes_further old mid new (λ _ image. StandsFor image s ⊎ MayStandFor (InDoubt s next) image) (Before (Err Device)) within
      (λ m image lt either. ⊎_elim (at_first (Err Device) m image (none m)) (both m image) either)
      (weaker mid new (λ _. MayStandFor (InDoubt s next)) (Before (Err Device)) both (stays_in_doubt mid s next cs acks new rest))
    where
      closed : AreClosed acks
      closed = all_closed mid s next cs acks new rest

      none : (m : ℕ) → acknowledged m (ack (Err Device) n ∷ acks) ≡ 0
      none m = omega (arith, acknowledged_cons m (ack (Err Device) n) acks, none_acknowledged m acks closed)

      alone : counted_commands (c ∷ cs) (ack (Err Device) n ∷ acks) ≡ c ∷ []
      alone = λ i. none_counts is_accepted closed_is_no_ok cs acks closed i ++ c ∷ none_counts is_in_doubt closed_is_no_device cs acks closed i

      both : (m : ℕ) (image : List ℕ) → MayStandFor (InDoubt s next) image → Before (Err Device) m image
      both m image (inl stands) = at_first (Err Device) m image (none m) stands
      both m image (inr stands) = record {
        j = 1;
        least = omega (arith, none m);
        most = omega arith;
        stands = subst (λ (l : Commands). StandsFor image (fold_of s (take 1 l))) (sym alone) stands;
      }

-- at every moment, every image represents a prefix of the counted commands
pub answered_leave_prefixes : (s : Source) (old : DiskState) (cs : Commands) (acks : Acks) (new : DiskState) → AreAnswered old (Holding s) cs acks new
    → Leaves old new (StandsForPrefix s cs acks)
answered_leave_prefixes s old [] [] new all =
    weaker old new (λ _. MayStandFor (Holding s)) (StandsForPrefix s [] []) (λ m image stands. record { j = 0; least = omega arith; most = omega arith; stands = stands }) all
answered_leave_prefixes s old (c ∷ cs) (a ∷ acks) new all =
    by a.reply all.1.within all.2 (λ t rest. answered_leave_prefixes t mid cs acks new rest) (λ m lt. none_before m mid (condition_after (Holding s) c a.reply) cs acks new all.2 lt)
  where
    ready : DiskState
    ready = all.1.ready

    mid : DiskState
    mid = all.0

    within : (k : Condition) → Leaves ready mid (λ _ image. StandsFor image s ⊎ MayStandFor k image) → Leaves old mid (λ _ image. StandsFor image s ⊎ MayStandFor k image)
    within k meanwhile = goes_further old ready mid (λ _. MayStandFor (Holding s)) (λ _ image. StandsFor image s ⊎ MayStandFor k image) all.1.idle (λ m image lt stands. inl stands) meanwhile

    by : (reply : Result Reply Refusal) → Leaves ready mid (λ _ image. StandsFor image s ⊎ MayStandFor (condition_after (Holding s) c reply) image)
        → AreAnswered mid (condition_after (Holding s) c reply) cs acks new
        → ((t : Source) → AreAnswered mid (Holding t) cs acks new → Leaves mid new (StandsForPrefix t cs acks))
        → ((m : ℕ) → m < mid.calls → acknowledged m acks ≡ 0)
        → Leaves old new (StandsForPrefix s (c ∷ cs) (ack reply a.at_call ∷ acks))
    by (Ok reply) meanwhile rest on none = accepted s old mid new c cs acks a.at_call all.1.at_call none reply (within (condition_after (Holding s) c (Ok reply)) meanwhile) (on (state_after s (step s c.0 c.1)) rest)
    by (Err Device) meanwhile rest on none = failed s old mid new c cs acks a.at_call all.1.at_call none (within (condition_after (Holding s) c (Err Device)) meanwhile) rest
    by (Err refusal) meanwhile rest on none = refused s old mid new c cs acks a.at_call all.1.at_call none refusal refl (within (Holding s) meanwhile) (on s rest)
answered_leave_prefixes s old cs acks new all = absurd all

module _ {D : Type 0} (device : D → DiskState) where
  -- a source that is open at the end holds the state after the counted commands
  pub holds_all : (s : Source) (old : Stored D) (cs : Commands) (acks : Acks) (new : Stored D) → Holds device old s → InTurn device old cs acks new → new.is_closed ≡ false
      → Holds device new (fold_of s (counted_commands cs acks))
  holds_all s old [] [] new holds turn open_then = (turn.holds s holds).0
  holds_all s old (c ∷ cs) (a ∷ acks) new holds turn open_then = after a.reply turn.3 (λ t held. holds_all t turn.2 cs acks new held turn.5 open_then)
    where
      goal_of : Result Reply Refusal → Type 0
      goal_of reply = Holds device new (fold_of s (counted_commands (c ∷ cs) (ack reply a.at_call ∷ acks)))

      after : (reply : Result Reply Refusal) → Answers device turn.0 turn.2 c.0 c.1 reply → ((t : Source) → Holds device turn.2 t → Holds device new (fold_of t (counted_commands cs acks))) → goal_of reply
      after (Ok reply) answers rest =
          let lead = answers.leads s (turn.1.holds s holds).0 in
          subst (λ (x : Source). Holds device new (fold_of x (counted_commands cs acks))) (sym (ap (state_after s) lead.1)) (rest lead.0 lead.2)
      after (Err refusal) answers rest = ⊎_elim
          (λ is.
          let here : Answers device turn.0 turn.2 c.0 c.1 (Err Device) = subst (λ (r : Refusal). Answers device turn.0 turn.2 c.0 c.1 (Err r)) is answers in
          let shut : turn.2.is_closed ≡ true = here.closes refl in
          absurd (true≢false (sym (closed_run device turn.2 cs acks new shut turn.5).0 ∙ open_then)))
          (λ other.
          let lead = not_done device turn.0 turn.2 s c.0 c.1 refusal other (answers.leads s (turn.1.holds s holds).0) in
          subst (λ (l : Commands). Holds device new (fold_of s (answered is_accepted cs acks ++ l))) (sym (ap (λ (b : Bool). cond b (c ∷ answered is_in_doubt cs acks) (answered is_in_doubt cs acks)) other))
          (rest s lead.0))
          (is_device_or_not refusal)
  holds_all s old [] (a ∷ acks) new holds turn open_then = absurd turn
  holds_all s old (c ∷ cs) [] new holds turn open_then = absurd turn
