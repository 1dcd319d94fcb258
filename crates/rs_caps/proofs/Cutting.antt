-- The results of the search for a prefix and for a mark.
use Rattle.std.proofs.Common.{◌≡◌, ◌≢◌, ℕ, ◌+◌, ◌<◌, List, [], ◌∷◌, ◌++◌, length, take, drop, Bool, true, false, not, cond, refl, sym, ap, ◌∙◌, Option, Some, None, get_or, arith, one-add, ◌≤◌, ◌*◌, ◌-◌, nat_lt}
use Rattle.std.specs.Prelude.{◌==◌}
use Rattle.std.specs.List.{position_or_len, position}
use Rattle.std.proofs.lemmas.Bool.Decides.{nat_tests}
use Rattle.std.proofs.lemmas.Grind.{common_steps}
use Rattle.rs_time.specs.ReadMoment.{number_after}
use Rattle.rs_caps.specs.Cut.{strip, cut, with_first}

same_or_not : (c p : ℕ) (o : Option (List ℕ)) → (c ≡ p → o ≡ None) → cond (c == p) o None ≡ None
same_or_not c p o h = by_test (c == p) refl
  where
    by_test : (b : Bool) → (c == p) ≡ b → cond b o None ≡ None
    by_test true e = h (grind (arith, nat_tests))
    by_test false e = refl

-- a prefix with which the text does not begin is not stripped
pub strip-none : (prefix text : List ℕ) → ((rest : List ℕ) → text ≢ prefix ++ rest) → strip prefix text ≡ None
unfolding strip
strip-none [] text h = absurd (h text refl)
strip-none (p ∷ prefix) [] h = refl
strip-none (p ∷ prefix) (c ∷ text) h =
    same_or_not c p (strip prefix text) (λ e. strip-none prefix text (λ rest same. h rest (cc)))

-- the bytes before the first mark, and the rest
abbrev end_of : ℕ → List ℕ → ℕ
end_of mark text = position_or_len (λ byte. byte == mark) text

cut_here : (b : Bool) (mark c : ℕ) (text : List ℕ) → cut mark text ≡ (take (end_of mark text) text, drop (end_of mark text) text)
    → cond b ([], c ∷ text) (with_first c (cut mark text))
    ≡ (take (cond (not b) (1 + end_of mark text) 0) (c ∷ text), drop (cond (not b) (1 + end_of mark text) 0) (c ∷ text))
cut_here true mark c text h = refl
cut_here false mark c text h = rw one-add (ap (with_first c) h)

pub cut-is : (mark : ℕ) (text : List ℕ) → cut mark text ≡ (take (end_of mark text) text, drop (end_of mark text) text)
unfolding cut
cut-is mark [] = refl
cut-is mark (c ∷ text) = cut_here (c == mark) mark c text (cut-is mark text)

found_at : (b : Bool) (m n : ℕ) → Some n ≡ cond b (Some m) None → n ≡ m
found_at true m n e = cc
found_at false m n e = absurd (cc)

pub cut-found : (mark : ℕ) (text front back : List ℕ) (n : ℕ) → Some n ≡ position (λ byte. byte == mark) text → front ≡ take n text → back ≡ drop n text → (front, back) ≡ cut mark text
cut-found mark text front back n e f b =
    let at : n ≡ end_of mark text = found_at (nat_lt (end_of mark text) (length text)) (end_of mark text) n e in
    ap (λ t. (t, back)) f ∙ ap (λ t. (take n text, t)) b ∙ ap (λ i. (take i text, drop i text)) at ∙ sym (cut-is mark text)

found_nowhere : (b : Bool) (m : ℕ) → None ≡ cond b (Some m) None → b ≡ false
found_nowhere true m e = absurd (cc)
found_nowhere false m e = refl

pub cut-none : (mark : ℕ) (text : List ℕ) → None ≡ position (λ byte. byte == mark) text → (text, []) ≡ cut mark text
cut-none mark text e =
    let past = found_nowhere (nat_lt (end_of mark text) (length text)) (end_of mark text) e in
    let bound : length text ≤ end_of mark text = grind (arith, nat_tests, past) in
    let all : take (end_of mark text) text ≡ text = grind (arith, common_steps) in
    let none : drop (end_of mark text) text ≡ [] = grind (arith, common_steps) in
    sym (cut-is mark text ∙ ap (λ t. (t, drop (end_of mark text) text)) all ∙ ap (λ t. (text, t)) none)

-- a number only grows as its digits are read
pub number_after-grows : (n : ℕ) (digits : List ℕ) → n ≤ number_after n digits
number_after-grows n [] = omega arith
number_after-grows n (c ∷ digits) = omega (arith, number_after-grows (10 * n + (c - 48)) digits)

-- the number of these digits, where it is below a bound
pub number_below : (bound n : ℕ) → n < bound → Some n ≡ cond (nat_lt n bound) (Some n) None
number_below bound n h = by_test (nat_lt n bound) refl
  where
    by_test : (b : Bool) → nat_lt n bound ≡ b → Some n ≡ cond b (Some n) None
    by_test true e = refl
    by_test false e = absurd (grind (arith, nat_tests))

pub number_not_below : (bound n : ℕ) → bound ≤ n → None ≡ cond (nat_lt n bound) (Some n) None
number_not_below bound n h = by_test (nat_lt n bound) refl
  where
    by_test : (b : Bool) → nat_lt n bound ≡ b → None ≡ cond b (Some n) None
    by_test true e = absurd (grind (arith, nat_tests))
    by_test false e = refl

-- the number goes past a bound with its next digit
pub goes_past : (bound total count : ℕ) (digits : List ℕ) (i : ℕ) → number_after count (drop i digits) ≡ total → i < length digits
    → bound ≤ 10 * count + (get_or digits i 0 - 48) → bound ≤ total
goes_past bound total count digits i e lt h =
    let next : drop i digits ≡ get_or digits i 0 ∷ drop (i + 1) digits = grind (arith, common_steps) in
    let read : number_after (10 * count + (get_or digits i 0 - 48)) (drop (i + 1) digits) ≡ total = sym (ap (number_after count) next) ∙ e in
    omega (arith, read, number_after-grows (10 * count + (get_or digits i 0 - 48)) (drop (i + 1) digits))

-- no digit is left
pub all_read : (bound count total : ℕ) (digits : List ℕ) (i : ℕ) → number_after count (drop i digits) ≡ total → length digits ≤ i → count < bound
    → Some count ≡ cond (nat_lt total bound) (Some total) None
all_read bound count total digits i e past fits =
    let none : drop i digits ≡ [] = grind (arith, common_steps) in
    let same : count ≡ total = sym (ap (number_after count) none) ∙ e in
    ap (λ n. Some n) same ∙ number_below bound total (omega arith)
