-- Items filled at their places, page by page, as in one list.
use Rattle.std.proofs.Common.{◌≡◌, ℕ, suc, List, [], ◌∷◌, ◌++◌, length, map, Bool, true, false, cond, refl, sym, subst, ap, ap₂, ◌∙◌, Some, None}
use Rattle.std.specs.Prelude.{IsTrue, IfSome, ◌&&◌}
use Rattle.std.specs.Cmp.{first_so, second_so}
use Rattle.std.specs.Cmp.Lexicographic.{nat_list_cmp_total}
use Rattle.std.specs.Ordering.{is_eq, is_lt, ordering_reverse}
use Rattle.std.specs.declared.cmp.Ordering.{Ordering}
use Rattle.std.specs.declared.cmp.Ordering.TheVariants.{Less, Equal, Greater}
use Rattle.std.proofs.lemmas.Bool.{and_from}
use Rattle.std.proofs.lemmas.Option.{IfSome_then}
use Rattle.std.proofs.lemmas.List.{map-append, length-map}
use Rattle.std.proofs.lemmas.Map.Text.{is_eq-slice_cmp}
use Rattle.std.proofs.lemmas.Slice.Eq.{bytes_eq-Decides}
use Rattle.rs_model.specs.Names.{by_bytes, by_order, value_of, bind, is_above, is_ordered}
use Rattle.rs_pages.proofs.FromBelow.{is_less, tail_ordered}
use Rattle.rs_page.specs.Pages.{Page, items_of}
use Rattle.rs_pages.specs.Items.{keyed, put_in}
use Rattle.rs_pages.specs.Filled.{items_filled, named_filled}
use Rattle.rs_pages.specs.Rule.{touched_pages, items_at, with_page, some_begins_by, home, bound_in}
use Rattle.rs_pages.specs.Laws.{Ascend, FillsAsOne, FillingIsOne, FillingBound}
use Rattle.rs_pages.proofs.EachPage.{each_touched, items_of-each}
use Rattle.rs_pages.proofs.InOrder.{is_past, is_before}
use Rattle.rs_pages.proofs.Home.{above_lower, above_rest, ordered_rest, past_items, before_items}
use Rattle.rs_pages.proofs.AtHome.{above_front, ordered_front}

-- names compare as equal where they are the same, and only there
same_name : (x y : List ℕ) → by_bytes x y ≡ Equal → x ≡ y
same_name x y h = (bytes_eq-Decides x y).0 (sym (is_eq-slice_cmp x y) ∙ ap is_eq h)

equal_by : (o : Ordering) → o ≡ ordering_reverse o → o ≡ Equal
equal_by Less h = cc
equal_by Equal h = refl
equal_by Greater h = cc

itself : (n : List ℕ) → by_bytes n n ≡ Equal
itself n = equal_by (by_bytes n n) (nat_list_cmp_total.antisymm n n)

module _ {T : Type 0} (name : T → List ℕ) (f : T → T) where
  -- items of other names stay
  past_stay : (n : List ℕ) (xs : List T) → is_past name n xs → items_filled name f n xs ≡ xs
  past_stay n [] h = refl
  past_stay n (x ∷ xs) h = ap₂ (λ y ys. y ∷ ys) (ap (λ o. by_order o x (f x) x) h.0) (past_stay n xs h.1)

  above_stay : (n : List ℕ) (xs : List T) → IsTrue (is_above n (keyed name xs)) → items_filled name f n xs ≡ xs
  above_stay n [] h = refl
  above_stay n (x ∷ xs) h =
      let less = is_less (by_bytes n (name x)) (first_so _ _ h) in
      let later = above_lower n (name x) (keyed name xs) less (second_so (is_lt (by_bytes n (name x))) _ h) in
      ap₂ (λ y ys. y ∷ ys) (ap (λ o. by_order o x (f x) x) less) (above_stay n xs later)

  above_same : (n : List ℕ) (x : T) (xs : List T) → by_bytes n (name x) ≡ Equal → IsTrue (is_ordered (keyed name (x ∷ xs))) → items_filled name f n xs ≡ xs
  above_same n x xs is h = above_stay n xs (subst (λ m. IsTrue (is_above m (keyed name xs))) (sym (same_name n (name x) is)) h)

  pages_stay : (n : List ℕ) (pages : List (Page T)) → IsTrue (is_above n (keyed name (items_of pages))) → named_filled name f n pages ≡ pages
  pages_stay n [] h = refl
  pages_stay n (page ∷ pages) h =
      ap₂ (λ (items : List T) rest. record { items = items; place = page.place } ∷ rest)
      (above_stay n page.items (above_front name n page.items (items_of pages) h)) (pages_stay n pages (above_rest name n page.items (items_of pages) h))

  before_above : (n : List ℕ) (xs : List T) → is_before name n xs → IsTrue (is_ordered (keyed name xs)) → IsTrue (is_above n (keyed name xs))
  before_above n [] before h = refl
  before_above n (x ∷ xs) before h = and_from _ _ (ap is_lt before) h

-- where filling keeps the name of an item
module _ {T : Type 0} (name : T → List ℕ) (f : T → T) (same : (t : T) → name (f t) ≡ name t) where
  name_stays : (t : T) (o : Ordering) → name (by_order o t (f t) t) ≡ name t
  name_stays t Less = refl
  name_stays t Equal = same t
  name_stays t Greater = refl

  above-filled : (n lower : List ℕ) (xs : List T) → is_above lower (keyed name (items_filled name f n xs)) ≡ is_above lower (keyed name xs)
  above-filled n lower [] = refl
  above-filled n lower (x ∷ xs) =
      ap (λ m. is_lt (by_bytes lower m) && is_above m (keyed name (items_filled name f n xs))) (name_stays x (by_bytes n (name x)))
      ∙ ap (λ b. is_lt (by_bytes lower (name x)) && b) (above-filled n (name x) xs)

  ordered-filled : (n : List ℕ) (xs : List T) → is_ordered (keyed name (items_filled name f n xs)) ≡ is_ordered (keyed name xs)
  ordered-filled n [] = refl
  ordered-filled n (x ∷ xs) =
      ap (λ m. is_above m (keyed name (items_filled name f n xs))) (name_stays x (by_bytes n (name x))) ∙ above-filled n (name x) xs

  -- the filled item is bound to the name
  bind_by : (n : List ℕ) (x : T) (xs : List T) (o : Ordering) → by_bytes n (name x) ≡ o → IsTrue (is_ordered (keyed name (x ∷ xs)))
      → IfSome (value_of n (keyed name xs)) (λ t. keyed name (items_filled name f n xs) ≡ bind n (f t) (keyed name xs))
      → IfSome (by_order o None (Some x) (value_of n (keyed name xs)))
      (λ t. keyed name (by_order o x (f x) x ∷ items_filled name f n xs) ≡ by_order o ((n, f t) ∷ keyed name (x ∷ xs)) ((n, f t) ∷ keyed name xs) ((name x, x) ∷ bind n (f t) (keyed name xs)))
  bind_by n x xs Less is h next = tt
  bind_by n x xs Equal is h next =
      ap₂ (λ m rest. (m, f x) ∷ rest) (same x ∙ sym (same_name n (name x) is)) (ap (keyed name) (above_same name f n x xs is h))
  bind_by n x xs Greater is h next = IfSome_then (value_of n (keyed name xs)) next (λ t equal. ap (λ rest. (name x, x) ∷ rest) equal)

  filled-bind : (n : List ℕ) (xs : List T) → IsTrue (is_ordered (keyed name xs))
      → IfSome (value_of n (keyed name xs)) (λ t. keyed name (items_filled name f n xs) ≡ bind n (f t) (keyed name xs))
  filled-bind n [] h = tt
  filled-bind n (x ∷ xs) h = bind_by n x xs (by_bytes n (name x)) refl h (filled-bind n xs (tail_ordered (name x) (keyed name xs) h))

  fills_as_one : (n : List ℕ) (pages : List (Page T)) → Ascend name pages → FillsAsOne name f n pages
  fills_as_one n pages h =
      let is = items_of-each (λ t. by_order (by_bytes n (name t)) t (f t) t) pages in
      record {
        bound = IfSome_then (value_of n (keyed name (items_of pages))) (filled-bind n (items_of pages) h) (λ t equal. ap (keyed name) is ∙ equal);
        ordered = ap (λ xs. is_ordered (keyed name xs)) is ∙ (ordered-filled n (items_of pages) ∙ h);
        len = ap length is ∙ length-map (items_of pages) (λ t. by_order (by_bytes n (name t)) t (f t) t);
      }

  -- to fill an item that was put in is to put in the filled item
  put_by : (t x : T) (xs : List T) (o : Ordering) → by_bytes (name t) (name x) ≡ o → IsTrue (is_ordered (keyed name (x ∷ xs)))
      → items_filled name f (name t) (put_in name t xs) ≡ put_in name (f t) xs
      → items_filled name f (name t) (by_order o (t ∷ x ∷ xs) (t ∷ xs) (x ∷ put_in name t xs)) ≡ by_order o (f t ∷ x ∷ xs) (f t ∷ xs) (x ∷ put_in name (f t) xs)
  put_by t x xs Less is h next =
      ap₂ (λ y ys. y ∷ ys) (ap (λ o. by_order o t (f t) t) (itself (name t))) (above_stay name f (name t) (x ∷ xs) (and_from _ _ (ap is_lt is) h))
  put_by t x xs Equal is h next = ap₂ (λ y ys. y ∷ ys) (ap (λ o. by_order o t (f t) t) (itself (name t))) (above_same name f (name t) x xs is h)
  put_by t x xs Greater is h next = ap₂ (λ y ys. y ∷ ys) (ap (λ o. by_order o x (f x) x) is) next

  filled-put_in : (t : T) (xs : List T) → IsTrue (is_ordered (keyed name xs)) → items_filled name f (name t) (put_in name t xs) ≡ put_in name (f t) xs
  filled-put_in t [] h = ap (λ o. by_order o t (f t) t ∷ []) (itself (name t))
  filled-put_in t (x ∷ xs) h =
      put_by t x xs (by_bytes (name t) (name x)) refl h (filled-put_in t xs (tail_ordered (name x) (keyed name xs) h))
      ∙ ap (λ m. by_order (by_bytes m (name x)) (f t ∷ x ∷ xs) (f t ∷ xs) (x ∷ put_in name (f t) xs)) (sym (same t))

  bound_by : (t : T) (page : Page T) (pages : List (Page T)) (b : Bool) → some_begins_by name (name t) pages ≡ b → IsTrue (is_ordered (keyed name (page.items ++ items_of pages)))
      → (let i = home name (name t) pages in named_filled name f (name t) (bound_in name t pages) ≡ with_page i (put_in name (f t) (items_at i pages)) pages)
      → (let i = cond b (suc (home name (name t) pages)) 0 in
      named_filled name f (name t) (with_page i (put_in name t (items_at i (page ∷ pages))) (page ∷ pages)) ≡ with_page i (put_in name (f t) (items_at i (page ∷ pages))) (page ∷ pages))
  bound_by t page pages true is h next =
      ap₂ (λ (items : List T) rest. record { items = items; place = page.place } ∷ rest) (past_stay name f (name t) page.items (past_items name (name t) page.items pages h is)) next
  bound_by t page pages false is h next =
      let g : T → T = λ x. by_order (by_bytes (name t) (name x)) x (f x) x in
      let later = pages_stay name f (name t) pages (before_above name f (name t) (items_of pages) (before_items name (name t) pages is) (ordered_rest name page.items (items_of pages) h)) in
      map-append (λ (p : Page T). record { items = map g p.items; place = p.place }) (touched_pages (put_in name t page.items)) pages
      ∙ ap₂ (λ (made : List (Page T)) rest. made ++ rest)
      (each_touched g (put_in name t page.items) ∙ ap touched_pages (filled-put_in t page.items (ordered_front name page.items (items_of pages) h))) later

  filled_at_home : (t : T) (pages : List (Page T)) → Ascend name pages
      → (let i = home name (name t) pages in named_filled name f (name t) (bound_in name t pages) ≡ with_page i (put_in name (f t) (items_at i pages)) pages)
  filled_at_home t [] h =
      let g : T → T = λ x. by_order (by_bytes (name t) (name x)) x (f x) x in
      each_touched g (t ∷ []) ∙ ap touched_pages (filled-put_in t [] refl)
  filled_at_home t (page ∷ pages) h =
      bound_by t page pages (some_begins_by name (name t) pages) refl h (filled_at_home t pages (ordered_rest name page.items (items_of pages) h))

pub filling_is_one : {T : Type 0} (name : T → List ℕ) → FillingIsOne name
filling_is_one name f same n pages h = fills_as_one name f same n pages h

pub filling_bound : {T : Type 0} (name : T → List ℕ) → FillingBound name
filling_bound name f same t pages h =
    filled_at_home name f same t pages h
    ∙ ap (λ n. let i = home name n pages in with_page i (put_in name (f t) (items_at i pages)) pages) (sym (same t))
