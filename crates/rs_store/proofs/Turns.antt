-- Commands that a source answers in their order.
use Rattle.std.proofs.Common.{◌≡◌, ℕ, ◌+◌, ◌<◌, ◌≤◌, Bool, true, false, ◌&&◌, List, [], ◌∷◌, ◌++◌, refl, sym, ◌∙◌, ap, subst, arith, cond, Result, Err, true≢false}
use Rattle.std.specs.Prelude.{nat_le, is_ok, IsErrOf, Some}
use Rattle.std.specs.List.{AllByRecursion, AllZip}
use Rattle.std.proofs.lemmas.List.Elements.{All-nil, All-cons}
use Rattle.std.proofs.lemmas.Bool.Decides.{nat_tests}
use Rattle.rs_disk.specs.Medium.{DiskState, IsImage, IsMedium}
use Rattle.rs_disk.specs.Runs.{Rests}
use Rattle.rs_store.proofs.FromBelow.{started, goes_on, reading_none, rests, rests_on, ready_opens}
use Rattle.rs_model.specs.State.{Source}
use Rattle.rs_model.specs.Step.{refusal_of}
use Rattle.rs_model.specs.declared.command.Command.{Command}
use Rattle.rs_model.specs.declared.command.Reply.{Reply}
use Rattle.rs_image.specs.StateOfImage.{StandsFor}
use Rattle.rs_store.specs.declared.refusal.Refusal.{Refusal}
use Rattle.rs_store.specs.declared.refusal.Refusal.TheVariants.{Closed, Device}
use Rattle.rs_store.specs.Source.{Stored, Holds, state_of}
use Rattle.rs_store.specs.Refusals.{decided, or_spent, is_spent}
use Rattle.rs_store.specs.Answered.{Answers}
use Rattle.rs_store.specs.declared.running.Ack.{Ack}
use Rattle.rs_store.specs.Counted.{is_accepted, is_device, is_in_doubt, answered, acknowledged}
use Rattle.rs_store.specs.Runs.{IsIdle, InTurn}
use Rattle.rs_store.specs.Laws.{AreNotDevice}

abbrev pub Commands : Type 0
Commands = List (Command × ℕ)

abbrev pub Acks : Type 0
Acks = List Ack

module _ {D : Type 0} (device : D → DiskState) (sound : (disk : D) → IsMedium (device disk).size (device disk).now) where
  -- every image of the disk of a source that holds a state represents it
  pub images_stand : (source : Stored D) (s : Source) → Holds device source s → (image : List ℕ) → IsImage (device source.disk).now image → StandsFor image s
  images_stand source s holds image left =
      (source.slots.root, ready_opens source.slots (device source.disk).now (device source.disk).size (sound source.disk) holds.ready image left, (source.contents, holds.tells image left))

  -- a source without calls
  pub idle_at : (source : Stored D) → IsIdle device source source
  idle_at source = record {
    is_closed = refl;
    holds = λ s holds. (holds, started (device source.disk) (λ _ image. StandsFor image s) (images_stand source s holds));
    rests = λ _. rests (device source.disk) (device source.disk) (reading_none {A = ⊥} (device source.disk) (λ none. none));
    calls = omega arith;
  }

  -- one more command
  pub in_turn_push : (old : Stored D) (cs : Commands) (acks : Acks) (mid : Stored D) (c : Command × ℕ) (a : Ack) (new : Stored D)
      → InTurn device old cs acks mid → Answers device mid new c.0 c.1 a.reply → a.at_call ≡ (device new.disk).calls → InTurn device old (cs ++ c ∷ []) (acks ++ a ∷ []) new
  in_turn_push old [] [] mid c a new turn answers at = (mid, turn, new, answers, at, idle_at new)
  in_turn_push old (x ∷ cs) (y ∷ acks) mid c a new turn answers at = (turn.0, turn.1, turn.2, turn.3, turn.4, in_turn_push turn.2 cs acks mid c a new turn.5 answers at)
  in_turn_push old [] (y ∷ acks) mid c a new turn answers at = absurd turn
  in_turn_push old (x ∷ cs) [] mid c a new turn answers at = absurd turn

-- a source that idles twice in sequence idles
pub idle_on : {D : Type 0} (device : D → DiskState) (old mid new : Stored D) → IsIdle device old mid → IsIdle device mid new → IsIdle device old new
idle_on device old mid new first then = record {
  is_closed = then.is_closed ∙ first.is_closed;
  holds = λ s holds.
      let one = first.holds s holds in
      let two = then.holds s one.0 in
      (two.0, goes_on (device old.disk) (device mid.disk) (device new.disk) (λ _ image. StandsFor image s) one.1 two.1);
  rests = λ shut. rests_on (device old.disk) (device mid.disk) (device new.disk) (first.rests shut) (then.rests (first.is_closed ∙ shut));
  calls = omega (arith, first.calls, then.calls);
}

-- two runs in sequence
pub in_turn_on : {D : Type 0} (device : D → DiskState) (old mid new : Stored D) (cs ds : Commands) (acks late : Acks)
    → InTurn device old cs acks mid → InTurn device mid ds late new → InTurn device old (cs ++ ds) (acks ++ late) new
in_turn_on {D} device old mid new [] [] [] [] turn then = idle_on device old mid new turn then
in_turn_on {D} device old mid new [] (d ∷ ds) [] (a ∷ late) turn then = (then.0, idle_on device old mid then.0 turn then.1, then.2, then.3, then.4, then.5)
in_turn_on {D} device old mid new [] [] [] (a ∷ late) turn then = absurd then
in_turn_on {D} device old mid new [] (d ∷ ds) [] [] turn then = absurd then
in_turn_on {D} device old mid new (c ∷ cs) ds (a ∷ acks) late turn then = (turn.0, turn.1, turn.2, turn.3, turn.4, in_turn_on device turn.2 mid new cs ds acks late turn.5 then)
in_turn_on {D} device old mid new [] ds (a ∷ acks) late turn then = absurd turn
in_turn_on {D} device old mid new (c ∷ cs) ds [] late turn then = absurd turn

-- the count of calls does not fall
pub calls_rise : {D : Type 0} (device : D → DiskState) (old : Stored D) (cs : Commands) (acks : Acks) (new : Stored D)
    → InTurn device old cs acks new → (device old.disk).calls ≤ (device new.disk).calls
calls_rise {D} device old [] [] new turn = turn.calls
calls_rise {D} device old (c ∷ cs) (a ∷ acks) new turn = omega (arith, turn.1.calls, turn.3.runs.runs.calls, calls_rise device turn.2 cs acks new turn.5)
calls_rise {D} device old [] (a ∷ acks) new turn = absurd turn
calls_rise {D} device old (c ∷ cs) [] new turn = absurd turn

pub not_yet : (m n : ℕ) → m < n → nat_le n m ≡ false
not_yet m n lt = grind (arith, nat_tests)

pub by_then : (m n : ℕ) → n ≤ m → nat_le n m ≡ true
by_then m n le = grind (arith, nat_tests)

abbrev pub one : Bool → ℕ
one b = cond b 1 0

pub and_false : (b : Bool) → one (b && false) ≡ 0
and_false true = refl
and_false false = refl

pub one_at_most : (b : Bool) → one b ≤ 1
one_at_most true = omega arith
one_at_most false = omega arith

pub acknowledged_cons : (m : ℕ) (a : Ack) (acks : Acks) → acknowledged m (a ∷ acks) ≡ one (is_accepted a && nat_le a.at_call m) + acknowledged m acks
acknowledged_cons m a acks = refl

abbrev pub IsClosed : Ack → Type 0
IsClosed a = a.reply ≡ Err Closed

-- A closed source answers Closed to all commands and stays closed, and only the counts of the disk change.
pub closed_run : {D : Type 0} (device : D → DiskState) (old : Stored D) (cs : Commands) (acks : Acks) (new : Stored D)
    → old.is_closed ≡ true → InTurn device old cs acks new → (new.is_closed ≡ true) × Rests (device old.disk) (device new.disk) × AllByRecursion IsClosed acks
closed_run {D} device old [] [] new shut turn = (turn.is_closed ∙ shut, turn.rests shut, tt)
closed_run {D} device old (c ∷ cs) (a ∷ acks) new shut turn =
    let ready = turn.0 in
    let mid = turn.2 in
    let still : ready.is_closed ≡ true = turn.1.is_closed ∙ shut in
    let refused : decided ready (state_of device ready) c.0 c.1 ≡ Some Closed = ap (λ (b : Bool). cond b (Some Closed) (or_spent (refusal_of (state_of device ready) c.0 c.1) (is_spent ready))) still in
    let same : mid ≡ ready = turn.3.untouched Closed refused in
    let rest = closed_run device mid cs acks new (ap (λ (x : Stored D). x.is_closed) same ∙ still) turn.5 in
    let behind : Rests (device ready.disk) (device new.disk) = subst (λ (x : Stored D). Rests (device x.disk) (device new.disk)) same rest.1 in
    (rest.0, rests_on (device old.disk) (device ready.disk) (device new.disk) (turn.1.rests shut) behind, (turn.3.decides Closed refused, rest.2))
closed_run {D} device old [] (a ∷ acks) new shut turn = absurd turn
closed_run {D} device old (c ∷ cs) [] new shut turn = absurd turn

-- one more pair
pub zip_push : {A B : Type 0} (R : A → B → Type 0) (xs : List A) (ys : List B) (x : A) (y : B) → AllZip R xs ys → R x y → AllZip R (xs ++ x ∷ []) (ys ++ y ∷ [])
zip_push R [] [] x y all more = (more, tt)
zip_push R (a ∷ xs) (b ∷ ys) x y all more = (all.0, zip_push R xs ys x y all.1 more)
zip_push R [] (b ∷ ys) x y all more = absurd all
zip_push R (a ∷ xs) [] x y all more = absurd all

abbrev IsNoDevice : Ack → Type 0
IsNoDevice a = ¬ IsErrOf a.reply Device

-- A source that is open at the end of a run answered no command Device.
pub none_device : {D : Type 0} (device : D → DiskState) (old : Stored D) (cs : Commands) (acks : Acks) (new : Stored D)
    → InTurn device old cs acks new → new.is_closed ≡ false → AreNotDevice acks
none_device {D} device old [] [] new turn is_open = All-nil IsNoDevice
none_device {D} device old (c ∷ cs) (a ∷ acks) new turn is_open = All-cons IsNoDevice a acks
    (λ failed. absurd (true≢false (sym (closed_run device turn.2 cs acks new (turn.3.closes failed) turn.5).0 ∙ is_open)))
    (none_device device turn.2 cs acks new turn.5 is_open)
none_device {D} device old [] (a ∷ acks) new turn is_open = absurd turn
none_device {D} device old (c ∷ cs) [] new turn is_open = absurd turn

-- No command counts among those that were all answered Closed.
pub none_counts : (test : Ack → Bool) → ((a : Ack) → IsClosed a → test a ≡ false) → (cs : Commands) (acks : Acks) → AllByRecursion IsClosed acks → answered test cs acks ≡ []
none_counts test fails [] acks all = refl
none_counts test fails (c ∷ cs) [] all = refl
none_counts test fails (c ∷ cs) (a ∷ acks) all =
    ap (λ (b : Bool). cond b (c ∷ answered test cs acks) (answered test cs acks)) (fails a all.0) ∙ none_counts test fails cs acks all.1

pub none_acknowledged : (m : ℕ) (acks : Acks) → AllByRecursion IsClosed acks → acknowledged m acks ≡ 0
none_acknowledged m [] all = refl
none_acknowledged m (a ∷ acks) all =
    let here : one (is_accepted a && nat_le a.at_call m) ≡ 0 = ap (λ (r : Result Reply Refusal). one (is_ok r && nat_le a.at_call m)) all.0 in
    omega (arith, here, none_acknowledged m acks all.1, acknowledged_cons m a acks)

pub closed_is_no_ok : (a : Ack) → IsClosed a → is_accepted a ≡ false
closed_is_no_ok a is = ap (λ (r : Result Reply Refusal). is_ok r) is

pub closed_is_no_device : (a : Ack) → IsClosed a → is_in_doubt a ≡ false
closed_is_no_device a is = ap is_device is
