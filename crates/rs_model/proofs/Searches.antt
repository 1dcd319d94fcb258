-- The place that a binary search finds among ascending names.
use Rattle.std.proofs.Common.{◌≡◌, ℕ, zero, suc, ◌<◌, ◌≤◌, List, [], ◌∷◌, length, get_or, ap, ◌∙◌, arith, add-one, Result, Ok, Err}
use Rattle.std.specs.Prelude.{IsTrue}
use Rattle.std.specs.List.{AllWithin}
use Rattle.std.specs.List.Sorted.{IsSearchInRange, IsBinarySearchResult, IsNonDecreasingBy}
use Rattle.std.specs.Ordering.{is_lt, ordering_index}
use Rattle.std.specs.Cmp.Lexicographic.{nat_list_cmp_total}
use Rattle.std.specs.declared.cmp.Ordering.TheVariants.{Less, Equal, Greater}
use Rattle.std.proofs.lemmas.List.Sorted.{searchable_from_sorted}
use Rattle.rs_model.specs.Names.{Names, by_bytes, is_above, is_ordered, IsFoundAt, IsMissingAt, IsPlaceOf}
use Rattle.std.specs.Cmp.{first_so, second_so}
use Rattle.rs_model.proofs.OrderLemmas.{is_less, swapped, tail_ordered}
use Rattle.rs_model.proofs.Places.{first_found, first_missing, later_found, later_missing, missing_all}

-- a name is below all ascending names above it
above_at : {V : Type 0} (lower : List ℕ) (m : Names V) (i : ℕ) (d : List ℕ × V) → IsTrue (is_above lower m) → i < length m → by_bytes lower (get_or m i d).0 ≡ Less
above_at lower [] i d h k = absurd (omega arith)
above_at lower (e ∷ m) zero d h k = is_less (by_bytes lower e.0) (first_so _ _ h)
above_at lower (e ∷ m) (suc i) d h k =
    nat_list_cmp_total.trans lower e.0 (get_or m i d).0 (is_less (by_bytes lower e.0) (first_so _ _ h)) (above_at e.0 m i d (second_so (is_lt (by_bytes lower e.0)) _ h) (omega arith))

ascends : {V : Type 0} (m : Names V) (i : ℕ) (d : List ℕ × V) → IsTrue (is_ordered m) → suc i < length m → by_bytes (get_or m i d).0 (get_or m (suc i) d).0 ≡ Less
ascends [] i d h k = absurd (omega arith)
ascends (e ∷ m) zero d h k = above_at e.0 m 0 d h (omega arith)
ascends (e ∷ m) (suc i) d h k = ascends m i d (tail_ordered e.0 m h) (omega arith)

rises : {V : Type 0} (name : List ℕ) (m : Names V) → IsTrue (is_ordered m) → IsNonDecreasingBy (λ e. ordering_index (by_bytes e.0 name)) m
rises name m h =
    searchable_from_sorted nat_list_cmp_total (λ e. e.0) m name (λ i d low below. rw add-one (ap is_lt (swapped (get_or m i d).0 (get_or m (suc i) d).0 Less (ascends m i d h (omega arith)))))

found : {V : Type 0} (name : List ℕ) (m : Names V) (i : ℕ) → IsTrue (is_ordered m) → i < length m → ((d : List ℕ × V) → by_bytes (get_or m i d).0 name ≡ Equal) → IsFoundAt m name i
found name [] i h k same = absurd (omega arith)
found name (x ∷ m) zero h k same = first_found name x m (swapped x.0 name Equal (same x))
found name (x ∷ m) (suc i) h k same =
    let there : List ℕ = (get_or m i x).0 in
    let later : by_bytes there x.0 ≡ Greater = swapped x.0 there Less (above_at x.0 m i x h (omega arith)) in
    later_found name x m i (nat_list_cmp_total.congr name there x.0 (swapped there name Equal (same x)) ∙ later) (found name m i (tail_ordered x.0 m h) (omega arith) same)

missing : {V : Type 0} (name : List ℕ) (m : Names V) (i : ℕ) → i ≤ length m → AllWithin (λ e. by_bytes e.0 name ≡ Less) m 0 i → AllWithin (λ e. by_bytes e.0 name ≡ Greater) m i (length m) → IsMissingAt m name i
missing name [] zero k below above = missing_all name [] tt
missing name [] (suc i) k below above = absurd (omega arith)
missing name (x ∷ m) zero k below above = first_missing name x m (swapped x.0 name Greater (above 0 x (omega arith) (omega arith)))
missing name (x ∷ m) (suc i) k below above =
    later_missing name x m i (swapped x.0 name Less (below 0 x (omega arith) (omega arith)))
    (missing name m i (omega arith) (λ j d low high. below (suc j) d (omega arith) (omega arith)) (λ j d low high. above (suc j) d (omega arith) (omega arith)))

pub searched : {V : Type 0} (name : List ℕ) (m : Names V) (r : Result ℕ ℕ) → IsTrue (is_ordered m) → IsSearchInRange r (length m) → IsBinarySearchResult (λ e. by_bytes e.0 name) m r → IsPlaceOf m name r
searched name m (Ok i) h within same = found name m i h within same
searched name m (Err i) h within parted = let parts = parted (rises name m h) in missing name m i within parts.0 parts.1
