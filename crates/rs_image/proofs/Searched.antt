-- A page searched among sorted pages is found exactly where it is one of them.
use Rattle.std.proofs.Common.{◌≡◌, ⊎_elim, ℕ, ◌<◌, ◌≤◌, Bool, true, false, List, length, get_or, refl, sym, ◌∙◌, ap, arith, Result, Ok, Err}
use Rattle.std.specs.declared.cmp.Ordering.{Ordering}
use Rattle.std.specs.Prelude.{is_ok, ◌&&◌}
use Rattle.std.proofs.lemmas.Bool.{cases_lt}
use Rattle.std.specs.Cmp.{IsTotalOrder}
use Rattle.std.specs.List.{list_any}
use Rattle.std.specs.List.Sorted.{IsSorted, IsBinarySearchResult, IsSearchInRange}
use Rattle.std.specs.Ordering.{is_eq, eq_by_cmp}
use Rattle.std.proofs.lemmas.Cmp.{eq_by_cmp_equiv}
use Rattle.std.proofs.lemmas.List.Folds.{list_any_at, list_any_none}
use Rattle.std.proofs.lemmas.List.Sorted.{searchable_from_sorted}

-- the search answers whether some element passes a test that holds of those that are level
pub search_finds : {K : Type 0} (R : K → K → Ordering) → IsTotalOrder R → (test : K → Bool) (x : K) → ((y : K) → test y ≡ is_eq (R y x)) → (xs : List K)
    (r : Result ℕ ℕ) → IsSorted R xs → IsSearchInRange r (length xs) → IsBinarySearchResult (λ y. R y x) xs r → is_ok r ≡ list_any test xs
search_finds R total test x tests xs (Ok i) sorted inside found =
    sym (list_any_at test xs i x inside (tests (get_or xs i x) ∙ ap is_eq (found x)))
search_finds R total test x tests xs (Err i) sorted inside found =
    let parts = found (searchable_from_sorted total (λ y. y) xs x sorted) in
    sym (list_any_none test xs (λ k d lt. tests (get_or xs k d)
    ∙ ⊎_elim (λ (before : k < i). ap is_eq (parts.0 k d (omega arith) before)) (λ (behind : i ≤ k). ap is_eq (parts.1 k d behind lt)) (cases_lt k i)))

-- elements are equal exactly where neither is below the other
pub level : {K : Type 0} {E : K → K → Bool} {R : K → K → Ordering} → IsTotalOrder R → ((x y : K) → E x y ≡ eq_by_cmp R x y) → (x y : K) → E x y ≡ is_eq (R y x)
level total ties x y = ties x y ∙ (eq_by_cmp_equiv total).symm x y

-- a test of three parts, however they are grouped
pub grouped : (a b c : Bool) → (a && b && c) ≡ (a && (b && c))
grouped true b c = refl
grouped false b c = refl
