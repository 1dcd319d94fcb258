-- Changes that rise, and the first of them, which are dropped.
use Rattle.std.proofs.Common.{◌≡◌, ℕ, zero, suc, ◌+◌, ◌*◌, ◌/◌, ◌<◌, ◌≤◌, List, [], ◌∷◌, ◌++◌, Bool, true, false, cond, nat_lt, nat_le, length, take, drop, refl, ap, ◌∙◌, arith, Some, ◌-◌, div-le_self, div-mul-le_self}
use Rattle.std.proofs.Math.Nat.{div-zero}
use Rattle.std.specs.Prelude.{IsTrue, slice_get}
use Rattle.std.specs.Cmp.{first_so, second_so}
use Rattle.std.specs.List.{AllByRecursion}
use Rattle.std.proofs.lemmas.Bool.{and_from, ltb-true, lt-ltb}
use Rattle.std.proofs.lemmas.Bool.Decides.{nat_tests}
use Rattle.rs_time.specs.Moment.{IsMoment}
use Rattle.rs_record.specs.Changes.{last_moment}
use Rattle.rs_record.specs.declared.change.Change.{Change}
use Rattle.rs_model.specs.Lawful.{IsChange}
use Rattle.rs_model.specs.Regular.{is_rising, rises_from, IsAfter, IsChangeUpTo}
use Rattle.rs_model.specs.State.{Source}
use Rattle.rs_model.specs.Step.{passed_by, dropped_parts, dropped_changes}

pub all_taken : {A : Type 0} (P : A → Type 0) (n : ℕ) (xs : List A) → AllByRecursion P xs → AllByRecursion P (take n xs)
all_taken P zero xs h = tt
all_taken P (suc n) [] h = tt
all_taken P (suc n) (x ∷ xs) h = (h.0, all_taken P n xs h.1)

pub all_dropped : {A : Type 0} (P : A → Type 0) (n : ℕ) (xs : List A) → AllByRecursion P xs → AllByRecursion P (drop n xs)
all_dropped P zero xs h = h
all_dropped P (suc n) [] h = tt
all_dropped P (suc n) (x ∷ xs) h = all_dropped P n xs h.1

pub last_joined : (t : ℕ) (a b : List Change) → last_moment t (a ++ b) ≡ last_moment (last_moment t a) b
last_joined t [] b = refl
last_joined t (c ∷ a) b = last_joined c.moment a b

pub last_exists : (t : ℕ) (cs : List Change) → IsMoment t → AllByRecursion IsChange cs → IsMoment (last_moment t cs)
last_exists t [] m h = m
last_exists t (c ∷ cs) m h = last_exists c.moment cs h.0.moment h.1

-- the first change is after the bound, and the rest rise from it on
pub first_rises : (low : ℕ) (c : Change) (cs : List Change) → IsTrue (rises_from low (c ∷ cs)) → (low < c.moment) × IsTrue (rises_from c.moment cs)
first_rises low c cs h =
    let rises : Bool = rises_from c.moment cs in
    (ltb-true low c.moment (first_so (nat_lt low c.moment) rises h), second_so (nat_lt low c.moment) rises h)

-- changes that rise, all after a moment, rise from it
pub rises_after : (low : ℕ) (cs : List Change) → IsTrue (is_rising cs) → AllByRecursion (IsAfter low) cs → IsTrue (rises_from low cs)
rises_after low [] h after = refl
rises_after low (c ∷ cs) h after = and_from (nat_lt low c.moment) (rises_from c.moment cs) (lt-ltb low c.moment after.0) h

pub is_rising_from : (low : ℕ) (cs : List Change) → IsTrue (rises_from low cs) → IsTrue (is_rising cs)
is_rising_from low [] h = refl
is_rising_from low (c ∷ cs) h = (first_rises low c cs h).1

-- changes that rise from a moment are after it, and after every earlier one
pub all_after : (low from : ℕ) (cs : List Change) → low ≤ from → IsTrue (rises_from from cs) → AllByRecursion (IsAfter low) cs
all_after low from [] k h = tt
all_after low from (c ∷ cs) k h =
    let first = first_rises from c cs h in
    (omega (arith, k, first.0), all_after low c.moment cs (omega (arith, k, first.0)) first.1)

-- the rest rise from the last of the first n
pub rest_rises : (low n : ℕ) (cs : List Change) → IsTrue (rises_from low cs) → IsTrue (rises_from (last_moment low (take n cs)) (drop n cs))
rest_rises low zero cs h = h
rest_rises low (suc n) [] h = refl
rest_rises low (suc n) (c ∷ cs) h = rest_rises c.moment n cs (first_rises low c cs h).1

-- the last of n changes is at least n milliseconds later
pub last_later : (low n : ℕ) (cs : List Change) → IsTrue (rises_from low cs) → n ≤ length cs → low + n ≤ last_moment low (take n cs)
last_later low zero cs h k = omega arith
last_later low (suc n) [] h k = absurd (omega arith)
last_later low (suc n) (c ∷ cs) h k =
    let first = first_rises low c cs h in
    omega (arith, first.0, last_later c.moment n cs first.1 (omega arith))

-- all of the first n are not after the last of them
pub up_to_last : (low n : ℕ) (cs : List Change) → IsTrue (rises_from low cs)
    → (low ≤ last_moment low (take n cs)) × AllByRecursion (IsChangeUpTo (last_moment low (take n cs))) (take n cs)
up_to_last low zero cs h = (omega arith, tt)
up_to_last low (suc n) [] h = (omega arith, tt)
up_to_last low (suc n) (c ∷ cs) h =
    let first = first_rises low c cs h in
    let rest = up_to_last c.moment n cs first.1 in
    (omega (arith, first.0, rest.0), (rest.0, rest.1))

-- the changes that are passed by a moment
passed_if : (b : Bool) (n k : ℕ) → n ≤ k → cond b (suc n) 0 ≤ suc k
passed_if true n k h = omega arith
passed_if false n k h = omega arith

pub passed_within : (moment : ℕ) (cs : List Change) → passed_by moment cs ≤ length cs
passed_within moment [] = omega arith
passed_within moment (c ∷ cs) = passed_if (nat_le c.moment moment) (passed_by moment cs) (length cs) (passed_within moment cs)

one_passed : (b : Bool) (n m a t : ℕ) → nat_le a t ≡ b → suc n ≤ cond b (suc m) 0 → (a ≤ t) × (n ≤ m)
one_passed true n m a t e h = (grind (arith, nat_tests), omega arith)
one_passed false n m a t e h = absurd (omega arith)

pub last_passed : (moment low n : ℕ) (cs : List Change) → low ≤ moment → n ≤ passed_by moment cs → last_moment low (take n cs) ≤ moment
last_passed moment low zero cs k h = k
last_passed moment low (suc n) [] k h = absurd (omega arith)
last_passed moment low (suc n) (c ∷ cs) k h =
    let one = one_passed (nat_le c.moment moment) n (passed_by moment cs) c.moment moment refl h in
    last_passed moment c.moment n cs one.0 one.1

-- the parts that a publication drops, and their changes
pub parts_passed : (s : Source) → dropped_parts s ≤ passed_by s.at s.changes
parts_passed s = div-le_self (passed_by s.at s.changes) s.limit

pub changes_passed : (s : Source) → dropped_changes s ≤ passed_by s.at s.changes
changes_passed s = div-mul-le_self (passed_by s.at s.changes) s.limit

pub dropped_within : (s : Source) → dropped_changes s ≤ length s.changes
dropped_within s = omega (arith, changes_passed s, passed_within s.at s.changes)

no_more_parts : (n limit : ℕ) → n / limit ≤ n / limit * limit
no_more_parts n zero = omega (arith, div-zero n)
no_more_parts n (suc limit) = grind arith

pub few_parts : (s : Source) → dropped_parts s ≤ dropped_changes s
few_parts s = no_more_parts (passed_by s.at s.changes) s.limit

-- the moment of the last change, where there is one
last_at : (t n : ℕ) (cs : List Change) (c : Change) → length cs ≡ suc n → slice_get cs n ≡ Some c → last_moment t cs ≡ c.moment
last_at t n [] c e h = cc
last_at t zero (x ∷ []) c e h = let same : x ≡ c = cc in ap (λ (y : Change). y.moment) same
last_at t zero (x ∷ y ∷ cs) c e h = absurd (omega arith)
last_at t (suc n) (x ∷ cs) c e h = last_at x.moment n cs c (omega arith) h

pub last_of : (t : ℕ) (cs : List Change) (c : Change) → slice_get cs (length cs - 1) ≡ Some c → last_moment t cs ≡ c.moment
last_of t [] c h = cc
last_of t (x ∷ cs) c h = last_at t (length cs) (x ∷ cs) c refl (ap (slice_get (x ∷ cs)) (omega arith) ∙ h)
