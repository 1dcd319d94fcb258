-- The number of lines after the word.
use Rattle.std.proofs.Common.{◌≡◌, ◌⊎◌, inl, inr, ◌∙◌, ◌≤◌, ◌<◌, ℕ, List, Option, ap, sym, refl, true, false, Some, None, drop, codes, nat_eq, nat_le, arith}
use Rattle.std.proofs.lemmas.Bool.Decides.{nat_tests}
use Rattle.std.specs.List.{starts_with}
use Rattle.rs_record.specs.Decimal.{number_in}
use Rattle.rs_script.specs.Statements.{size_in, group_size as size_of}
use Rattle.rs_script.proofs.group.group_size.Goals as goal

sized : (line digits : List ℕ) (found : Option ℕ) → starts_with nat_eq line (codes "group ") ≡ true → digits ≡ drop 6 line → found ≡ number_in 2 digits
    → size_of line ≡ size_in found
unfolding size_of
sized line digits found starts are is =
    let same : number_in 2 (drop 6 line) ≡ found = ap (number_in 2) (sym are) ∙ sym is in
    rw (starts, same) refl

fits : (n : ℕ) → (n ≡ 0 → ⊥) → n ≤ 16 → size_in (Some n) ≡ Some n
fits n some le =
    let least : nat_le 1 n ≡ true = grind (arith, nat_tests) in
    let most : nat_le n 16 ≡ true = grind (arith, nat_tests) in
    rw (least, most) refl

outside : (n : ℕ) → (n ≡ 0) ⊎ ((n ≡ 0 → ⊥) × (16 < n)) → size_in (Some n) ≡ None
outside n (inl none) = rw none refl
outside n (inr (some, more)) =
    let least : nat_le 1 n ≡ true = grind (arith, nat_tests) in
    let most : nat_le n 16 ≡ false = grind (arith, nat_tests) in
    rw (least, most) refl

pub returns-in_err-digits-clause-value : goal.returns-in_err-digits-clause-value
unfolding size_of
returns-in_err-digits-clause-value c = c.from_residual.ensures ∙ rw c.in_err-digits.ensures refl

pub returns-in_err-size-clause-value : goal.returns-in_err-size-clause-value
returns-in_err-size-clause-value c =
    c.from_residual-in_err-size.ensures ∙ ap size_in (sym c.in_err-size.was)
    ∙ sym (sized c.args.line.now c.in_ok-digits.digits.now c.number.result c.in_ok-digits.ensures.0 c.in_ok-digits.ensures.1 c.number.ensures)

pub returns-then-size-eq0-clause-value : goal.returns-then-size-eq0-clause-value
returns-then-size-eq0-clause-value c =
    sym (sized c.args.line.now c.in_ok-digits.digits.now c.number.result c.in_ok-digits.ensures.0 c.in_ok-digits.ensures.1 c.number.ensures
    ∙ ap size_in c.in_ok-size.was ∙ outside c.in_ok-size.size c.then-size-eq0.either)

pub returns-clause-value : goal.returns-clause-value
returns-clause-value c =
    sym (sized c.args.line.now c.in_ok-digits.digits.now c.number.result c.in_ok-digits.ensures.0 c.in_ok-digits.ensures.1 c.number.ensures
    ∙ ap size_in c.in_ok-size.was ∙ fits c.in_ok-size.size c.if-size-eq0.false c.if-size-gt-MOST_GROUPED.false)
