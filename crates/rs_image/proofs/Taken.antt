-- Extents that are taken one after the other.
use Rattle.std.proofs.Common.{◌≡◌, ℕ, suc, ◌-◌, ◌<◌, ◌≤◌, Bool, List, [], ◌∷◌, ◌++◌, length, take, drop, map, get_or, sym, ◌∙◌, ap, subst, arith, Some}
use Rattle.std.specs.Prelude.{slice_get}
use Rattle.std.proofs.Math.Seq.{drop-cons}
use Rattle.std.proofs.lemmas.List.{map-append, take-append-drop}
use Rattle.std.proofs.lemmas.Option.{slice_get_within, get_or_from_slice_get}
use Rattle.rs_image.proofs.FromBelow.{taken_before, can_behind, can_front}
use Rattle.rs_extent.specs.declared.Extent.{Extent}
use Rattle.rs_extent.specs.Extents.{AreTaken, CanTake}

-- a list from the element before a place on, where the element is read by its place, and where it is found there
pub read_before : {A : Type 0} (xs : List A) (i : ℕ) (d : A) → 0 < i → i ≤ length xs → drop (i - 1) xs ≡ get_or xs (i - 1) d ∷ drop i xs
read_before xs i d some few =
    let here : suc (i - 1) ≡ i = omega arith in
    drop-cons xs (i - 1) d (omega arith) ∙ ap (λ (k : ℕ). get_or xs (i - 1) d ∷ drop k xs) here

pub found_before : {A : Type 0} (xs : List A) (i : ℕ) (x : A) → 0 < i → slice_get xs (i - 1) ≡ Some x → drop (i - 1) xs ≡ x ∷ drop i xs
found_before xs i x some at =
    let lt : i - 1 < length xs = slice_get_within xs (i - 1) x at in
    read_before xs i x some (omega arith) ∙ ap (λ y. y ∷ drop i xs) (get_or_from_slice_get xs (i - 1) x x at)

-- Extents are taken from the last one on: one more,
pub one_more : {A : Type 0} (f : A → Extent) (old mid new : List Bool) (xs : List A) (i : ℕ) (x : A) → drop (i - 1) xs ≡ x ∷ drop i xs
    → AreTaken old mid (map f (drop i xs)) → AreTaken mid new (f x ∷ []) → AreTaken old new (map f (drop (i - 1) xs))
one_more {A} f old mid new xs i x from behind one =
    subst (λ (l : List A). AreTaken old new (map f l)) (sym from) (taken_before old mid new (f x ∷ []) (map f (drop i xs)) behind one)

-- and where one cannot be taken, all of them cannot.
pub one_refused : {A : Type 0} (f : A → Extent) (old mid : List Bool) (xs : List A) (i : ℕ) (x : A) → drop (i - 1) xs ≡ x ∷ drop i xs
    → AreTaken old mid (map f (drop i xs)) → (CanTake mid (f x ∷ []) → ⊥) → CanTake old (map f xs) → ⊥
one_refused {A} f old mid xs i x from behind refused can =
    let parts : map f xs ≡ map f (take (i - 1) xs) ++ map f (drop (i - 1) xs) =
    ap (map f) (sym (take-append-drop (i - 1) xs)) ∙ map-append f (take (i - 1) xs) (drop (i - 1) xs) in
    let rest : CanTake old (map f (drop (i - 1) xs)) = can_behind old (map f (take (i - 1) xs)) (map f (drop (i - 1) xs)) (subst (CanTake old) parts can) in
    refused (can_front old mid (f x ∷ []) (map f (drop i xs)) behind (subst (λ (l : List A). CanTake old (map f l)) from rest))
