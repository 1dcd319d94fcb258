-- The number of changes that are not after a moment, found by halves.
use Rattle.std.proofs.Common.{◌≡◌, ℕ, zero, suc, ◌<◌, ◌≤◌, List, [], ◌∷◌, length, Some, refl, subst, arith}
use Rattle.std.specs.Prelude.{IsTrue, nat_lt, nat_le, slice_get, if◌then◌else◌}
use Rattle.std.specs.Cmp.{first_so, second_so}
use Rattle.std.proofs.lemmas.Bool.Decides.{nat_tests}
use Rattle.rs_record.specs.declared.change.Change.{Change}
use Rattle.rs_model.specs.Regular.{is_rising, rises_from}
use Rattle.rs_model.specs.Step.{passed_by}

-- The number lies between these, which are places of the changes or the place after the last one.
pub record Between (low high moment : ℕ) (changes : List Change) : Type 0 where
  pub above : low ≤ passed_by moment changes
  pub below : passed_by moment changes ≤ high
  pub inside : high ≤ length changes

below_of : (a b : ℕ) → IsTrue (nat_lt a b) → a < b
below_of a b h = grind (arith, nat_tests)

-- one of two numbers, by a test of an order
up_to : (a b m n : ℕ) → a ≤ b → (if nat_le a b then m else n) ≡ m
up_to a b m n h = grind (arith, nat_tests)

beyond : (a b m n : ℕ) → b < a → (if nat_le a b then m else n) ≡ n
beyond a b m n h = grind (arith, nat_tests)

pub passed-length : (moment : ℕ) (changes : List Change) → passed_by moment changes ≤ length changes
passed-length moment [] = omega arith
passed-length moment (x ∷ changes) = let rest = passed-length moment changes in grind (arith, nat_tests)

rising_rest : (t : ℕ) (changes : List Change) → IsTrue (rises_from t changes) → IsTrue (is_rising changes)
rising_rest t [] h = refl
rising_rest t (x ∷ changes) h = second_so (nat_lt t x.moment) (rises_from x.moment changes) h

-- every change is after the moment before the first
rises_to : (t : ℕ) (changes : List Change) (i : ℕ) (c : Change) → IsTrue (rises_from t changes) → slice_get changes i ≡ Some c → t < c.moment
rises_to t [] i c h at = absurd cc
rises_to t (x ∷ changes) zero c h at =
    let same : x ≡ c = cc in
    subst (λ (d : Change). t < d.moment) same (below_of t x.moment (first_so (nat_lt t x.moment) (rises_from x.moment changes) h))
rises_to t (x ∷ changes) (suc i) c h at =
    let first = below_of t x.moment (first_so (nat_lt t x.moment) (rises_from x.moment changes) h) in
    let later = rises_to x.moment changes i c (second_so (nat_lt t x.moment) (rises_from x.moment changes) h) at in
    omega arith

-- a change that is not after the moment, and all before it
pub passed_at : (moment : ℕ) (changes : List Change) (i : ℕ) (c : Change) → IsTrue (is_rising changes) → slice_get changes i ≡ Some c → c.moment ≤ moment → i < passed_by moment changes
passed_at moment [] i c h at low = absurd cc
passed_at moment (x ∷ changes) zero c h at low =
    let same : x.moment ≡ c.moment = cc in
    let is = up_to x.moment moment (suc (passed_by moment changes)) 0 (omega arith) in
    omega (arith, is)
passed_at moment (x ∷ changes) (suc i) c h at low =
    let later = rises_to x.moment changes i c h at in
    let is = up_to x.moment moment (suc (passed_by moment changes)) 0 (omega arith) in
    let rest = passed_at moment changes i c (rising_rest x.moment changes h) at low in
    omega (arith, is, rest)

-- a change that is after it
pub passed_before : (moment : ℕ) (changes : List Change) (i : ℕ) (c : Change) → slice_get changes i ≡ Some c → moment < c.moment → passed_by moment changes ≤ i
passed_before moment [] i c at high = omega arith
passed_before moment (x ∷ changes) zero c at high =
    let same : x.moment ≡ c.moment = cc in
    let is = beyond x.moment moment (suc (passed_by moment changes)) 0 (omega arith) in
    omega (arith, is)
passed_before moment (x ∷ changes) (suc i) c at high = let rest = passed_before moment changes i c at high in grind (arith, nat_tests)

pub begun : (high moment : ℕ) (changes : List Change) → high ≡ length changes → Between 0 high moment changes
begun high moment changes all = record { above = omega arith; below = omega (arith, passed-length moment changes); inside = omega arith }
