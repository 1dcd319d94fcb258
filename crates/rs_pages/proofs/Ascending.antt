-- Names that strictly rise, as they are compared one after the other.
use Rattle.std.proofs.Common.{◌≡◌, ℕ, zero, suc, ◌+◌, ◌-◌, ◌≤◌, List, [], ◌∷◌, take, refl, sym, subst, arith, add-one, Some, false, true}
use Rattle.std.specs.Cmp.{first_so, second_so}
use Rattle.std.specs.Prelude.{IsTrue, slice_get}
use Rattle.std.specs.Ordering.{is_lt}
use Rattle.std.proofs.lemmas.Bool.{and_from}
use Rattle.rs_model.specs.Names.{by_bytes, is_ordered, is_above}
use Rattle.rs_pages.proofs.FromBelow.{tail_ordered}
use Rattle.rs_pages.specs.Items.{keyed}

module _ {T : Type 0} (name : T → List ℕ) where
  above_more : (lower : List ℕ) (xs : List T) (i : ℕ) (a b : T) → slice_get xs i ≡ Some a → slice_get xs (suc i) ≡ Some b → is_lt (by_bytes (name a) (name b)) ≡ true
      → IsTrue (is_above lower (keyed name (take (suc i) xs))) → IsTrue (is_above lower (keyed name (take (suc (suc i)) xs)))
  above_more lower [] i a b first second rises h = h
  above_more lower (x ∷ []) zero a b first second rises h = h
  above_more lower (x ∷ y ∷ xs) zero a b first second rises h =
      let is_a : a ≡ x = cc in
      let is_b : b ≡ y = cc in
      and_from _ _ (first_so _ _ h) (and_from _ _ (subst (λ (t : T). is_lt (by_bytes (name t) (name y)) ≡ true) is_a (subst (λ (t : T). is_lt (by_bytes (name a) (name t)) ≡ true) is_b rises)) refl)
  above_more lower (x ∷ xs) (suc i) a b first second rises h =
      and_from _ _ (first_so _ _ h) (above_more (name x) xs i a b first second rises (second_so (is_lt (by_bytes lower (name x))) _ h))

  ordered_more : (xs : List T) (i : ℕ) (a b : T) → slice_get xs i ≡ Some a → slice_get xs (suc i) ≡ Some b → is_lt (by_bytes (name a) (name b)) ≡ true
      → IsTrue (is_ordered (keyed name (take (suc i) xs))) → IsTrue (is_ordered (keyed name (take (suc (suc i)) xs)))
  ordered_more [] i a b first second rises h = h
  ordered_more (x ∷ []) zero a b first second rises h = h
  ordered_more (x ∷ y ∷ xs) zero a b first second rises h =
      let is_a : a ≡ x = cc in
      let is_b : b ≡ y = cc in
      and_from _ _ (subst (λ (t : T). is_lt (by_bytes (name t) (name y)) ≡ true) is_a (subst (λ (t : T). is_lt (by_bytes (name a) (name t)) ≡ true) is_b rises)) refl
  ordered_more (x ∷ xs) (suc i) a b first second rises h = above_more (name x) xs i a b first second rises h

  rises_at : (xs : List T) (i : ℕ) (a b : T) → slice_get xs i ≡ Some a → slice_get xs (suc i) ≡ Some b → IsTrue (is_ordered (keyed name xs)) → is_lt (by_bytes (name a) (name b)) ≡ true
  rises_at [] i a b first second h = cc
  rises_at (x ∷ []) zero a b first second h = cc
  rises_at (x ∷ y ∷ xs) zero a b first second h =
      let is_a : x ≡ a = cc in
      let is_b : y ≡ b = cc in
      subst (λ (t : T). is_lt (by_bytes (name t) (name b)) ≡ true) is_a
      (subst (λ (t : T). is_lt (by_bytes (name x) (name t)) ≡ true) is_b (first_so (is_lt (by_bytes (name x) (name y))) (is_above (name y) (keyed name xs)) h))
  rises_at (x ∷ xs) (suc i) a b first second h = rises_at xs i a b first second (tail_ordered (name x) (keyed name xs) h)

  pub ordered_one : (xs : List T) → IsTrue (is_ordered (keyed name (take 1 xs)))
  ordered_one [] = refl
  ordered_one (x ∷ xs) = refl

  -- one name more, above the last one
  pub ordered_step : (xs : List T) (i : ℕ) (a b : T) → 1 ≤ i → slice_get xs (i - 1) ≡ Some a → slice_get xs i ≡ Some b → is_lt (by_bytes (name a) (name b)) ≡ true
      → IsTrue (is_ordered (keyed name (take i xs))) → IsTrue (is_ordered (keyed name (take (i + 1) xs)))
  ordered_step xs zero a b some first second rises h = absurd (omega arith)
  ordered_step xs (suc j) a b some first second rises h =
      let before : suc j - 1 ≡ j = omega arith in
      subst (λ (n : ℕ). IsTrue (is_ordered (keyed name (take n xs)))) (sym (add-one (suc j)))
      (ordered_more xs j a b (subst (λ (n : ℕ). slice_get xs n ≡ Some a) before first) second rises h)

  -- one name that is not above the last one
  pub refuted : (xs : List T) (i : ℕ) (a b : T) → 1 ≤ i → slice_get xs (i - 1) ≡ Some a → slice_get xs i ≡ Some b → is_lt (by_bytes (name a) (name b)) ≡ false → IsTrue (is_ordered (keyed name xs)) → ⊥
  refuted xs zero a b some first second falls h = omega arith
  refuted xs (suc j) a b some first second falls h =
      let before : suc j - 1 ≡ j = omega arith in
      let rises : is_lt (by_bytes (name a) (name b)) ≡ true = rises_at xs j a b (subst (λ (n : ℕ). slice_get xs n ≡ Some a) before first) second h in
      cc
