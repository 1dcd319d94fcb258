-- An item limit that is read was written, and an item limit that was written is read.
use Rattle.std.proofs.Common.{◌≡◌, ℕ, ◌≤◌, leb, true, List, ◌++◌, Some, refl, ap, subst, ◌∙◌, arith}
use Rattle.std.specs.Prelude.{◌&&◌}
use Rattle.std.specs.Int.{w16, to_be_bytes}
use Rattle.std.proofs.lemmas.Bool.{and_parts}
use Rattle.std.proofs.lemmas.Bool.Decides.{nat_tests}
use Rattle.rs_record.specs.Reading.{◌>>=◌, number_in}
use Rattle.rs_directory.proofs.FromBelow.{AreBytes, Takes, IsFormat, bind_some, guard_some, some_is, number_2}
use Rattle.rs_directory.specs.Limit.{IsLimit, limit_of}
use Rattle.rs_directory.specs.Reading.{limit_at}

limit_is : (items limit : ℕ) → limit_of items ≡ Some limit → (items ≡ limit) × IsLimit limit
limit_is items limit e =
    let g = guard_some (leb 2 items && leb items 4000) items limit e in
    let both = and_parts (leb 2 items) (leb items 4000) g.0 in
    let low : 2 ≤ items = grind (arith, nat_tests, both.0) in
    let high : items ≤ 4000 = grind (arith, nat_tests, both.1) in
    (g.1, subst IsLimit g.1 (record { low = low; high = high }))

limit_takes : (bytes : List ℕ) (x : ℕ × List ℕ) → AreBytes bytes → limit_at bytes ≡ Some x → Takes (to_be_bytes w16) IsLimit bytes x
unfolding limit_at
limit_takes bytes x fits e =
    let a = bind_some (number_in w16 bytes) (λ items. limit_of items.0 >>= λ limit. Some (limit, items.1)) x e in
    let b = bind_some (limit_of a.0.0) (λ limit. Some (limit, a.0.1)) x a.2 in
    let t = number_2.takes bytes a.0 fits a.1 in
    let is = limit_is a.0.0 b.0 b.1 in
    subst (Takes (to_be_bytes w16) IsLimit bytes) (some_is (b.0, a.0.1) x b.2)
    (record { parts = t.parts ∙ ap (λ n. to_be_bytes w16 n ++ a.0.1) is.0; rest = t.rest; lawful = is.1 })

limit_again : (n : ℕ) (rest : List ℕ) → IsLimit n → limit_at (to_be_bytes w16 n ++ rest) ≡ Some (n, rest)
unfolding limit_at
limit_again n rest h =
    let low : leb 2 n ≡ true = grind (arith, nat_tests, h.low) in
    let high : leb n 4000 ≡ true = grind (arith, nat_tests, h.high) in
    rw (number_2.again n rest (omega (arith, h.high)), low, high) refl

pub limit : IsFormat limit_at (to_be_bytes w16) IsLimit
limit = record { takes = limit_takes; again = limit_again }
