-- The counts of an end after calls, if it may have failed before.
use Rattle.std.proofs.Common.{◌≡◌, ℕ, ◌+◌, ◌≤◌, ◌==◌, Bool, true, false, not, Result, Ok, IsTrue, refl, sym, ap, ◌∙◌, inl, inr, arith}
use Rattle.std.specs.Prelude.{is_err}
use Rattle.rs_io.specs.declared.watch.Watched.{Watched}
use Rattle.rs_io.specs.Watch.{calls, failures, is_broken, IsCalledOnce, IsRefused}
use Rattle.rs_script.specs.Progress.{IsCalled}

is_false : (b : Bool) → (IsTrue b → ⊥) → b ≡ false
is_false true h = absurd (h refl)
is_false false h = refl

-- an end that answers a call had not failed
pub answers : {T X E : Type 0} (r : Result X E) (value : X) (a b : Watched T) → r ≡ Ok value → (IsTrue (is_broken a) → IsRefused a b r) → is_broken a ≡ false
answers r value a b is refused = is_false (is_broken a) (λ h. let failed : is_err r ≡ true = (refused h).failed in absurd cc)

-- and not before it either
pub was_sound : {T : Type 0} (a b : Watched T) → failures b ≡ failures a → is_broken b ≡ false → is_broken a ≡ false
was_sound a b same sound = ap (λ f. not (f.all == 0)) (sym same) ∙ sound

-- so it differs from an end that had failed
pub not_broken : {T P : Type 0} (a : Watched T) → is_broken a ≡ false → IsTrue (is_broken a) → P
not_broken a sound h = absurd (cc)

-- this many calls were made, or their count is at its greatest value
pub one_more : {T : Type 0} (a b c : Watched T) (n : ℕ) → IsCalled n a b → IsCalledOnce b c → IsCalled (n + 1) a c
one_more a b c n (inl many) (inl once) = inl (omega (arith, many, once))
one_more a b c n (inl many) (inr (same, last)) = inr (omega (arith, same, last))
one_more a b c n (inr full) (inl once) = inr (omega (arith, full, once))
one_more a b c n (inr full) (inr (same, last)) = inr (omega (arith, same, last))

pub calls_more : {T : Type 0} (a b c : Watched T) (n : ℕ) → calls b ≤ calls a + n → IsCalledOnce b c → calls c ≤ calls a + (n + 1)
calls_more a b c n le (inl once) = omega (arith, le, once)
calls_more a b c n le (inr (same, last)) = omega (arith, le, same)
