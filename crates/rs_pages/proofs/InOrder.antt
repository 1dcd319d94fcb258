-- An item put into a list, taken out of it and found in it, where the list is two lists end to end.
use Rattle.std.proofs.Common.{◌≡◌, ℕ, List, [], ◌∷◌, ◌++◌, refl, ap, ◌∙◌, Some, None}
use Rattle.std.specs.declared.cmp.Ordering.{Ordering}
use Rattle.std.specs.declared.cmp.Ordering.TheVariants.{Less, Equal, Greater}
use Rattle.rs_model.specs.Names.{by_bytes, by_order, value_of, bind, unbind}
use Rattle.rs_pages.specs.Items.{keyed, put_in, taken_out}

module _ {T : Type 0} (name : T → List ℕ) where
  -- the name is above all of these
  abbrev pub is_past : List ℕ → List T → Type 0
  is_past n [] = Unit {0}
  is_past n (x ∷ xs) = (by_bytes n (name x) ≡ Greater) × is_past n xs

  -- the name is below the first of these
  abbrev pub is_before : List ℕ → List T → Type 0
  is_before n [] = Unit {0}
  is_before n (x ∷ xs) = by_bytes n (name x) ≡ Less

  -- beyond names that are lower ..
  pub put_later : (t : T) (xs ys : List T) → is_past (name t) xs → put_in name t (xs ++ ys) ≡ xs ++ put_in name t ys
  put_later t [] ys h = refl
  put_later t (x ∷ xs) ys h =
      ap (λ o. by_order o (t ∷ x ∷ (xs ++ ys)) (t ∷ (xs ++ ys)) (x ∷ put_in name t (xs ++ ys))) h.0 ∙ ap (λ rest. x ∷ rest) (put_later t xs ys h.1)

  pub take_later : (n : List ℕ) (xs ys : List T) → is_past n xs → taken_out name n (xs ++ ys) ≡ xs ++ taken_out name n ys
  take_later n [] ys h = refl
  take_later n (x ∷ xs) ys h =
      ap (λ o. by_order o (x ∷ (xs ++ ys)) (xs ++ ys) (x ∷ taken_out name n (xs ++ ys))) h.0 ∙ ap (λ rest. x ∷ rest) (take_later n xs ys h.1)

  pub find_later : (n : List ℕ) (xs ys : List T) → is_past n xs → value_of n (keyed name (xs ++ ys)) ≡ value_of n (keyed name ys)
  find_later n [] ys h = refl
  find_later n (x ∷ xs) ys h = ap (λ o. by_order o None (Some x) (value_of n (keyed name (xs ++ ys)))) h.0 ∙ find_later n xs ys h.1

  -- .. and before names that are higher
  put_first : (t : T) (ys : List T) → is_before (name t) ys → put_in name t ys ≡ t ∷ ys
  put_first t [] h = refl
  put_first t (y ∷ ys) h = ap (λ o. by_order o (t ∷ y ∷ ys) (t ∷ ys) (y ∷ put_in name t ys)) h

  put_by : (t x : T) (xs ys : List T) (o : Ordering) → put_in name t (xs ++ ys) ≡ put_in name t xs ++ ys
      → by_order o (t ∷ x ∷ (xs ++ ys)) (t ∷ (xs ++ ys)) (x ∷ put_in name t (xs ++ ys)) ≡ by_order o (t ∷ x ∷ xs) (t ∷ xs) (x ∷ put_in name t xs) ++ ys
  put_by t x xs ys Less next = refl
  put_by t x xs ys Equal next = refl
  put_by t x xs ys Greater next = ap (λ rest. x ∷ rest) next

  pub put_here : (t : T) (xs ys : List T) → is_before (name t) ys → put_in name t (xs ++ ys) ≡ put_in name t xs ++ ys
  put_here t [] ys h = put_first t ys h
  put_here t (x ∷ xs) ys h = put_by t x xs ys (by_bytes (name t) (name x)) (put_here t xs ys h)

  take_first : (n : List ℕ) (ys : List T) → is_before n ys → taken_out name n ys ≡ ys
  take_first n [] h = refl
  take_first n (y ∷ ys) h = ap (λ o. by_order o (y ∷ ys) ys (y ∷ taken_out name n ys)) h

  take_by : (n : List ℕ) (x : T) (xs ys : List T) (o : Ordering) → taken_out name n (xs ++ ys) ≡ taken_out name n xs ++ ys
      → by_order o (x ∷ (xs ++ ys)) (xs ++ ys) (x ∷ taken_out name n (xs ++ ys)) ≡ by_order o (x ∷ xs) xs (x ∷ taken_out name n xs) ++ ys
  take_by n x xs ys Less next = refl
  take_by n x xs ys Equal next = refl
  take_by n x xs ys Greater next = ap (λ rest. x ∷ rest) next

  pub take_here : (n : List ℕ) (xs ys : List T) → is_before n ys → taken_out name n (xs ++ ys) ≡ taken_out name n xs ++ ys
  take_here n [] ys h = take_first n ys h
  take_here n (x ∷ xs) ys h = take_by n x xs ys (by_bytes n (name x)) (take_here n xs ys h)

  find_first : (n : List ℕ) (ys : List T) → is_before n ys → value_of n (keyed name ys) ≡ None
  find_first n [] h = refl
  find_first n (y ∷ ys) h = ap (λ o. by_order o None (Some y) (value_of n (keyed name ys))) h

  pub find_here : (n : List ℕ) (xs ys : List T) → is_before n ys → value_of n (keyed name (xs ++ ys)) ≡ value_of n (keyed name xs)
  find_here n [] ys h = find_first n ys h
  find_here n (x ∷ xs) ys h = ap (by_order (by_bytes n (name x)) None (Some x)) (find_here n xs ys h)

  -- a name that no item has is not taken out
  absent_by : (n : List ℕ) (x : T) (xs : List T) (o : Ordering) → (value_of n (keyed name xs) ≡ None → taken_out name n xs ≡ xs)
      → by_order o None (Some x) (value_of n (keyed name xs)) ≡ None → by_order o (x ∷ xs) xs (x ∷ taken_out name n xs) ≡ x ∷ xs
  absent_by n x xs Less next h = refl
  absent_by n x xs Equal next h = cc
  absent_by n x xs Greater next h = ap (λ rest. x ∷ rest) (next h)

  pub take_absent : (n : List ℕ) (xs : List T) → value_of n (keyed name xs) ≡ None → taken_out name n xs ≡ xs
  take_absent n [] h = refl
  take_absent n (x ∷ xs) h = absent_by n x xs (by_bytes n (name x)) (take_absent n xs) h

  -- the same as of the map from the names
  keyed_put_by : (t x : T) (xs : List T) (o : Ordering) → keyed name (put_in name t xs) ≡ bind (name t) t (keyed name xs)
      → keyed name (by_order o (t ∷ x ∷ xs) (t ∷ xs) (x ∷ put_in name t xs)) ≡ by_order o ((name t, t) ∷ (name x, x) ∷ keyed name xs) ((name t, t) ∷ keyed name xs) ((name x, x) ∷ bind (name t) t (keyed name xs))
  keyed_put_by t x xs Less next = refl
  keyed_put_by t x xs Equal next = refl
  keyed_put_by t x xs Greater next = ap (λ rest. (name x, x) ∷ rest) next

  pub keyed-put_in : (t : T) (xs : List T) → keyed name (put_in name t xs) ≡ bind (name t) t (keyed name xs)
  keyed-put_in t [] = refl
  keyed-put_in t (x ∷ xs) = keyed_put_by t x xs (by_bytes (name t) (name x)) (keyed-put_in t xs)

  keyed_take_by : (n : List ℕ) (x : T) (xs : List T) (o : Ordering) → keyed name (taken_out name n xs) ≡ unbind n (keyed name xs)
      → keyed name (by_order o (x ∷ xs) xs (x ∷ taken_out name n xs)) ≡ by_order o ((name x, x) ∷ keyed name xs) (keyed name xs) ((name x, x) ∷ unbind n (keyed name xs))
  keyed_take_by n x xs Less next = refl
  keyed_take_by n x xs Equal next = refl
  keyed_take_by n x xs Greater next = ap (λ rest. (name x, x) ∷ rest) next

  pub keyed-taken_out : (n : List ℕ) (xs : List T) → keyed name (taken_out name n xs) ≡ unbind n (keyed name xs)
  keyed-taken_out n [] = refl
  keyed-taken_out n (x ∷ xs) = keyed_take_by n x xs (by_bytes n (name x)) (keyed-taken_out n xs)
