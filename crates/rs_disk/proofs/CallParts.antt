-- A call of a memory disk from its parts: it is counted, may change the content, and counts as a fault if it failed.
use Rattle.std.proofs.Common.{◌≡◌, inl, inr, ℕ, ◌+◌, ◌-◌, ◌≤◌, Bool, List, ◌++◌, length, take, drop, sym, ◌∙◌, ap, subst, arith, length-append, length-take, length-drop, Result, Ok, Err, OnOk, OnErr, is_ok, true≢false}
use Rattle.rs_disk.specs.Medium.{Medium, DiskState, IsMedium, over, marked, widened, partly_written}
use Rattle.rs_disk.specs.Calls.{Passes, Stays, Tears}
use Rattle.rs_disk.specs.Memory.{Changes, SameContents}
use Rattle.rs_disk.proofs.Images.{over_front}

-- a consequence of a claim on one result holds on another result of the same variant
pub ok_from : {A B E F : Type 0} {P Q : Type 0} (r : Result A E) (s : Result B F) → is_ok s ≡ is_ok r → (P → Q) → OnOk r P → OnOk s Q
ok_from (Ok a) (Ok b) same from p = from p
ok_from (Err e) (Ok b) same from p = absurd (true≢false same)
ok_from r (Err f) same from p = tt

pub err_from : {A B E F : Type 0} {P Q : Type 0} (r : Result A E) (s : Result B F) → is_ok s ≡ is_ok r → (P → Q) → OnErr r P → OnErr s Q
err_from (Err e) (Err f) same from p = from p
err_from (Ok a) (Err f) same from p = absurd (true≢false (sym same))
err_from r (Ok b) same from p = tt

-- a claim on a result that is an error, and on any
pub not_ok : {A E : Type 0} (P : Type 0) (r : Result A E) (e : E) → r ≡ Err e → OnOk r P
not_ok P (Ok a) e is = absurd (true≢false (ap is_ok is))
not_ok P (Err f) e is = tt

pub on_err : {A E : Type 0} (P : Type 0) (r : Result A E) → P → OnErr r P
on_err P (Ok a) p = tt
on_err P (Err e) p = p

pub passes_from : (old new : DiskState) (held next : Medium) → Changes old.calls held next old new → Passes old new held
passes_from old new held next changes = record { past = changes.past; this = λ _. changes.this }

-- a write that put only some bytes at its front left other bytes as they were
pub tears_from : (old new : DiskState) (at n : ℕ) (front : List ℕ) → IsMedium old.size old.now → at + n ≤ old.size → length front ≤ n
    → Changes old.calls (widened old.now at n) (partly_written old.now at n front) old new → Tears at n old new
tears_from old new at n front is fits le changes =
    let k : ℕ = n - length front in
    let any : List ℕ = front ++ take k (drop (at + length front) old.now.seen) in
    let seen : length old.now.seen ≡ old.size = is.image.size ∙ is.settled in
    let long : length any ≡ n = omega (arith, length-append front (take k (drop (at + length front) old.now.seen)), length-take k (drop (at + length front) old.now.seen), length-drop (at + length front) old.now.seen) in
    let same : over old.now.seen at any ≡ over old.now.seen at front = over_front old.now.seen at k front (omega arith) in
    inl (
      any,
      long,
      record {
        now = changes.now ∙ (λ i. record { seen = sym same i; settled = old.now.settled; unsettled = marked old.now.unsettled at (sym long i) });
        passes = subst (λ (l : ℕ). Passes old new (widened old.now at l)) (sym long) (passes_from old new (widened old.now at n) (partly_written old.now at n front) changes);
      },
    )

-- a write that failed and left the disk unchanged
pub refuses_from : (old new : DiskState) (at n : ℕ) → Stays old new → Tears at n old new
refuses_from old new at n stays = inr (record { now = stays.now; passes = inl stays.passes })

-- the changes that a call made after it was counted, and before it was counted as a fault
module _ (old begun done mid new : DiskState) (call faults : ℕ) (failed : Bool) (first : call ≡ old.calls) (starts : begun ≡ record old { calls = old.calls + 1 }) (same : mid ≡ done) (ends : new ≡ record mid { faults = faults; last_failed = failed }) where
  ends_done : new ≡ record done { faults = faults; last_failed = failed }
  ends_done = ends ∙ ap (λ (s : DiskState). record s { faults = faults; last_failed = failed }) same

  pub changed : (held next : Medium → Medium) → Changes call (held begun.now) (next begun.now) begun done → Changes old.calls (held old.now) (next old.now) old new
  changed held next changes = record {
    now = ap (λ (s : DiskState). s.now) ends_done ∙ changes.now ∙ ap (λ (s : DiskState). next s.now) starts;
    this = ap (λ (s : DiskState). s.within old.calls) ends_done ∙ ap (λ (k : ℕ). done.within k) (sym first) ∙ changes.this ∙ ap (λ (s : DiskState). held s.now) starts;
    past = λ m lt. ap (λ (s : DiskState). s.within m) ends_done ∙ changes.past m (omega (arith, first, lt)) ∙ ap (λ (s : DiskState). s.within m) starts;
  }

  pub kept : old.within old.calls ≡ old.now → SameContents begun done → Stays old new
  kept current keeps = record {
    now = ap (λ (s : DiskState). s.now) ends_done ∙ keeps.now ∙ ap (λ (s : DiskState). s.now) starts;
    passes = record { past = λ m lt. within m; this = λ _. within old.calls ∙ current };
  }
    where
      within : (m : ℕ) → new.within m ≡ old.within m
      within m = ap (λ (s : DiskState). s.within m) ends_done ∙ keeps.past m ∙ ap (λ (s : DiskState). s.within m) starts

  -- a put of only some bytes at the front of its range, whether its record was kept or refused, is a torn write
  pub torn_put : {A E : Type 0} (at n : ℕ) (front : List ℕ) (r : Result A E) → IsMedium old.size old.now → at + n ≤ old.size → length front ≤ n → old.within old.calls ≡ old.now
      → OnOk r (Changes call (widened begun.now at n) (partly_written begun.now at n front) begun done) → OnErr r (SameContents begun done) → Tears at n old new
  torn_put at n front (Ok a) is fits le current changes keeps = tears_from old new at n front is fits le (changed (λ (m : Medium). widened m at n) (λ (m : Medium). partly_written m at n front) changes)
  torn_put at n front (Err e) is fits le current changes keeps = refuses_from old new at n (kept current keeps)
