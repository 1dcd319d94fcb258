-- Decimal digits read as their number, and no other text does.
use Rattle.std.proofs.Common.{◌≡◌, ℕ, zero, suc, ◌<◌, ◌^◌, List, [], ◌∷◌, length, get_or, refl, sym, ap, ◌∙◌, arith, Some, None, Bool, true, false, cond, subst, rules}
use Rattle.std.specs.Prelude.{◌==◌, ◌&&◌, ◌||◌, not}
use Rattle.std.specs.Cmp.{first_so, second_so}
use Rattle.std.specs.List.{list_all}
use Rattle.std.specs.Fmt.{decimal}
use Rattle.std.proofs.lemmas.Bool.Decides.{nat_tests}
use Rattle.std.proofs.lemmas.Fmt.{decimal_digit, decimal_nonempty, first_decimal, digits_decimal, digits_value-decimal, decimal-digits_value}
use Rattle.std.proofs.lemmas.Str.Parse.{IsNumeralModel, numerals_by_fold}
use Rattle.rs_time.specs.ReadMoment.{number_after}
use Rattle.rs_record.specs.Bytes.{is_digit}
use Rattle.rs_caps.specs.Cut.{is_empty, is_number, read_number}
use Rattle.rs_caps.proofs.Steps.{let_through}

numerals : IsNumeralModel (λ text. list_all is_digit text ≡ true) (number_after 0)
numerals = numerals_by_fold _ (search rules) number_after (search rules)

-- the first byte is `0` only where it is the last
abbrev HasNoLeadingZero : List ℕ → Type 0
HasNoLeadingZero text = get_or text 0 0 ≡ 48 → length text ≡ 1

decimal_leads : (n : ℕ) → n < 2 ^ 64 → HasNoLeadingZero (decimal n)
decimal_leads zero w = subst HasNoLeadingZero (sym (decimal_digit 0 (omega arith))) (λ e. refl)
decimal_leads (suc n) w = λ e. absurd (omega (arith, first_decimal (suc n) (omega arith) w, e))

-- a digit that is not `0`, or no digit after it
leads : (b : Bool) (c : ℕ) (text : List ℕ) → (c == 48) ≡ b → (c ≡ 48 → length (c ∷ text) ≡ 1) → (is_empty text || not b) ≡ true
leads b c [] e h = refl
leads false c (d ∷ text) e h = refl
leads true c (d ∷ text) e h = let is : c ≡ 48 = grind (arith, nat_tests) in absurd (omega (arith, h is))

number_is : (text : List ℕ) → list_all is_digit text ≡ true → 0 < length text → HasNoLeadingZero text → is_number text ≡ true
number_is [] digits some lead = absurd (omega arith)
number_is (c ∷ text) digits some lead = λ i. leads (c == 48) c text refl lead i && digits i

no_leading : (c : ℕ) (text : List ℕ) → (is_empty text || not (c == 48)) ≡ true → HasNoLeadingZero (c ∷ text)
no_leading c [] h e = refl
no_leading c (d ∷ text) h e = let is : (c == 48) ≡ true = grind (arith, nat_tests) in cc

pub decimal-digits : (n : ℕ) → n < 2 ^ 64 → list_all is_digit (decimal n) ≡ true
decimal-digits n w = digits_decimal numerals n w

pub read_number-decimal : (n : ℕ) → n < 2 ^ 64 → read_number (decimal n) ≡ Some n
unfolding read_number
read_number-decimal n w =
    ap (λ b. cond b (Some (number_after 0 (decimal n))) None)
    (number_is (decimal n) (decimal-digits n w) (decimal_nonempty n w) (decimal_leads n w))
    ∙ ap Some (digits_value-decimal numerals n w)

-- and back
decimal_of : (text : List ℕ) → is_number text ≡ true → number_after 0 text < 2 ^ 64 → decimal (number_after 0 text) ≡ text
decimal_of [] h w = cc
decimal_of (c ∷ text) h w =
    decimal-digits_value numerals (c ∷ text) (second_so (is_empty text || not (c == 48)) (list_all is_digit (c ∷ text)) h) (omega arith)
    (no_leading c text (first_so (is_empty text || not (c == 48)) (list_all is_digit (c ∷ text)) h)) w

pub read_number-exact : (text : List ℕ) (n : ℕ) → n < 2 ^ 64 → read_number text ≡ Some n → text ≡ decimal n
unfolding read_number
read_number-exact text n w h =
    let number = let_through (is_number text) (Some (number_after 0 text)) n h in
    let value : number_after 0 text ≡ n = cc (number.1) in
    sym (decimal_of text number.0 (omega arith)) ∙ ap decimal value
