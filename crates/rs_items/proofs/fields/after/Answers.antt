-- The bytes after a prefix, by the library's contracts.
use Rattle.std.proofs.Common.{◌≡◌, ◌≤◌, ◌+◌, ℕ, List, [], ◌∷◌, Option, Some, None, Bor, true, false, refl, ◌∙◌, length, take, drop, nat_eq, arith}
use Rattle.std.proofs.lemmas.Bool.Decides.{nat_tests}
use Rattle.std.specs.Cmp.Lexicographic.{pointwise}
use Rattle.std.specs.List.{starts_with}
use Rattle.std.specs.Prelude.{MatchOption}
use Rattle.rs_items.proofs.fields.after.Goals as goal

both_ways : (xs ys : List ℕ) → pointwise nat_eq xs ys ≡ pointwise nat_eq ys xs
both_ways [] [] = refl
both_ways [] (y ∷ ys) = refl
both_ways (x ∷ xs) [] = refl
both_ways (x ∷ xs) (y ∷ ys) =
    let here : nat_eq x y ≡ nat_eq y x = grind (arith, nat_tests) in
    rw (here, both_ways xs ys) refl

after_prefix : (bytes prefix : List ℕ) (r : Option (Bor (List ℕ)))
    → MatchOption r (pointwise nat_eq (take (length prefix) bytes) prefix ≡ false)
    (λ x. (pointwise nat_eq (take (length prefix) bytes) prefix ≡ true) × (x.now ≡ drop (length prefix) bytes) × (length x.now + length prefix ≡ length bytes))
    → MatchOption r (starts_with nat_eq bytes prefix ≡ false)
    (λ x. (starts_with nat_eq bytes prefix ≡ true) × (x.now ≡ drop (length prefix) bytes) × (length prefix ≤ length bytes))
after_prefix bytes prefix None h = both_ways prefix (take (length prefix) bytes) ∙ h
after_prefix bytes prefix (Some x) h = (both_ways prefix (take (length prefix) bytes) ∙ h.0, h.1, omega (arith, h.2))

pub returns : goal.returns
returns c = after_prefix c.args.bytes.now c.args.prefix.now c.strip_prefix.result c.strip_prefix.ensures.cases
