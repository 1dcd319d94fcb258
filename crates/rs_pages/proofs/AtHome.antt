-- The page where a name goes, as it is found among pages in order and put back changed.
use Rattle.std.proofs.Common.{◌≡◌, ℕ, zero, suc, ◌+◌, ◌-◌, ◌<◌, ◌≤◌, List, [], ◌∷◌, ◌++◌, length, get_or, take, drop, Bool, true, false, cond, refl, sym, ap, ◌∙◌, subst, arith, Option, Some, None, Result, Ok, Err, add-one}
use Rattle.std.specs.Prelude.{IsTrue, ◌||◌, not, is_some, slice_get, slice_set, insert, remove, map}
use Rattle.std.specs.List.{AllWithin}
use Rattle.std.specs.List.Sorted.{IsPartitionedBy, IsSearchInRange, IsBinarySearchResult, IsNonDecreasingBy}
use Rattle.std.specs.Ordering.{is_lt, ordering_index}
use Rattle.std.specs.declared.cmp.Ordering.TheVariants.{Less, Equal, Greater}
use Rattle.std.proofs.lemmas.List.{append-nil, get_or-map, map-append, map-set, length-map, take-map, drop-map, get_or_default}
use Rattle.std.proofs.lemmas.List.Elements.{All-append, All-take, All-drop, All-head, All-tail}
use Rattle.std.proofs.lemmas.Option.{get_or_from_slice_get}
use Rattle.rs_model.specs.Names.{by_bytes, value_of, is_above, is_ordered, IsFoundAt, IsMissingAt, IsPlaceOf}
use Rattle.std.specs.Cmp.{first_so, second_so}
use Rattle.std.proofs.lemmas.Bool.{and_from}
use Rattle.rs_pages.proofs.FromBelow.{searched}
use Rattle.rs_page.specs.Pages.{Page, items_of}
use Rattle.rs_pages.specs.Items.{keyed, put_in, taken_out}
use Rattle.rs_pages.specs.Rule.{HaveItems, touched_pages, items_at, with_page, begins_by, some_begins_by, home, bound_in, unbound_in}
use Rattle.rs_pages.proofs.InOrder.{is_past, keyed-put_in, keyed-taken_out}
use Rattle.rs_pages.proofs.Home.{ordered_rest, past_items}
use Rattle.rs_pages.proofs.Cut.{fresh_cut, have_items}

or_right : (a b : Bool) → b ≡ true → (a || b) ≡ true
or_right true b h = refl
or_right false b h = h

module _ {T : Type 0} where
  pub with_page-take : (i : ℕ) (items : List T) (pages : List (Page T)) → with_page i items pages ≡ take i pages ++ (touched_pages items ++ drop (suc i) pages)
  with_page-take zero items [] = sym (append-nil (touched_pages items))
  with_page-take (suc i) items [] = sym (append-nil (touched_pages items))
  with_page-take zero items (page ∷ pages) = refl
  with_page-take (suc i) items (page ∷ pages) = ap (λ rest. page ∷ rest) (with_page-take i items pages)

  pub items_at_some : (i : ℕ) (pages : List (Page T)) (page : Page T) → slice_get pages i ≡ Some page → items_at i pages ≡ page.items
  items_at_some i [] page h = cc
  items_at_some zero (first ∷ pages) page h = let same : first ≡ page = cc in ap (λ it. it.items) same
  items_at_some (suc i) (first ∷ pages) page h = items_at_some i pages page h

  pub items_at_none : (i : ℕ) (pages : List (Page T)) → slice_get pages i ≡ None → items_at i pages ≡ []
  items_at_none i [] h = refl
  items_at_none zero (first ∷ pages) h = cc
  items_at_none (suc i) (first ∷ pages) h = items_at_none i pages h

  pub touched_have : (items : List T) → HaveItems (touched_pages items)
  touched_have items = have_items (touched_pages items) (fresh_cut 32 (omega arith) (omega arith) items)

  pub have_both : (pages others : List (Page T)) → HaveItems pages → HaveItems others → HaveItems (pages ++ others)
  have_both pages others h k = All-append (λ (it : Page T). 1 ≤ length it.items) pages others h k

  pub have_with : (i : ℕ) (items : List T) (pages : List (Page T)) → HaveItems pages → HaveItems (with_page i items pages)
  have_with i items pages h =
      let P : Page T → Type 0 = λ it. 1 ≤ length it.items in
      subst HaveItems (sym (with_page-take i items pages))
      (have_both (take i pages) (touched_pages items ++ drop (suc i) pages) (All-take P i pages h) (have_both (touched_pages items) (drop (suc i) pages) (touched_have items) (All-drop P (suc i) pages h)))

module _ {T : Type 0} (name : T → List ℕ) where
  none_begin : (n : List ℕ) (pages : List (Page T)) → AllWithin (λ page. begins_by name n page.items ≡ false) pages 0 (length pages) → some_begins_by name n pages ≡ false
  none_begin n [] h = refl
  none_begin n (page ∷ pages) h =
      ap (λ b. b || some_begins_by name n pages) (h 0 page (omega arith) (omega arith)) ∙ none_begin n pages (λ k d from below. h (suc k) d (omega arith) (omega arith))

  some_at : (n : List ℕ) (pages : List (Page T)) (j : ℕ) (d : Page T) → j < length pages → begins_by name n (get_or pages j d).items ≡ true → some_begins_by name n pages ≡ true
  some_at n [] j d inside h = absurd (omega arith)
  some_at n (page ∷ pages) zero d inside h = ap (λ b. b || some_begins_by name n pages) h
  some_at n (page ∷ pages) (suc j) d inside h = or_right (begins_by name n page.items) (some_begins_by name n pages) (some_at n pages j d (omega arith) h)

  -- where the pages that begin by a name end
  pub home_is : (n : List ℕ) (pages : List (Page T)) (k : ℕ) → k ≤ length pages → AllWithin (λ page. begins_by name n page.items ≡ true) pages 0 k
      → AllWithin (λ page. begins_by name n page.items ≡ false) pages k (length pages) → home name n pages ≡ k - 1
  home_is n [] k inside below above = omega arith
  home_is n (page ∷ pages) zero inside below above =
      ap (λ b. cond b (suc (home name n pages)) 0) (none_begin n pages (λ k d from high. above (suc k) d (omega arith) (omega arith)))
  home_is n (page ∷ pages) (suc zero) inside below above =
      ap (λ b. cond b (suc (home name n pages)) 0) (none_begin n pages (λ k d from high. above (suc k) d (omega arith) (omega arith)))
  home_is n (page ∷ pages) (suc (suc j)) inside below above =
      let next = home_is n pages (suc j) (omega arith) (λ k d from high. below (suc k) d (omega arith) (omega arith)) (λ k d from high. above (suc k) d (omega arith) (omega arith)) in
      ap (λ b. cond b (suc (home name n pages)) 0) (some_at n pages 0 page (omega arith) (below 1 page (omega arith) (omega arith))) ∙ omega (arith, next)

  first_past : (n : List ℕ) (xs : List T) → 1 ≤ length xs → is_past name n xs → begins_by name n xs ≡ true
  first_past n [] h past = absurd (omega arith)
  first_past n (x ∷ xs) h past = ap (λ o. not (is_lt o)) past.0

  part : (n : List ℕ) (pages : List (Page T)) (i j : ℕ) (d : Page T) → HaveItems pages → IsTrue (is_ordered (keyed name (items_of pages))) → i ≤ j → j < length pages
      → begins_by name n (get_or pages j d).items ≡ true → begins_by name n (get_or pages i d).items ≡ true
  part n [] i j d have h order inside passes = absurd (omega arith)
  part n (page ∷ pages) zero zero d have h order inside passes = passes
  part n (page ∷ pages) zero (suc j) d have h order inside passes =
      first_past n page.items (All-head (λ (it : Page T). 1 ≤ length it.items) page pages have) (past_items name n page.items pages h (some_at n pages j d (omega arith) passes))
  part n (page ∷ pages) (suc i) zero d have h order inside passes = absurd (omega arith)
  part n (page ∷ pages) (suc i) (suc j) d have h order inside passes =
      part n pages i j d (All-tail (λ (it : Page T). 1 ≤ length it.items) page pages have) (ordered_rest name page.items (items_of pages) h) (omega arith) (omega arith) passes

  pub parted : (n : List ℕ) (pages : List (Page T)) → HaveItems pages → IsTrue (is_ordered (keyed name (items_of pages))) → IsPartitionedBy (λ page. begins_by name n page.items) pages
  parted n pages have h = λ i j d order inside passes. part n pages i j d have h order inside passes

  pub above_front : (lower : List ℕ) (xs ys : List T) → IsTrue (is_above lower (keyed name (xs ++ ys))) → IsTrue (is_above lower (keyed name xs))
  above_front lower [] ys h = refl
  above_front lower (x ∷ xs) ys h = and_from _ _ (first_so _ _ h) (above_front (name x) xs ys (second_so (is_lt (by_bytes lower (name x))) _ h))

  pub ordered_front : (xs ys : List T) → IsTrue (is_ordered (keyed name (xs ++ ys))) → IsTrue (is_ordered (keyed name xs))
  ordered_front [] ys h = refl
  ordered_front (x ∷ xs) ys h = above_front (name x) xs ys h

  -- the items of a page are in order
  pub ordered_at : (i : ℕ) (pages : List (Page T)) → IsTrue (is_ordered (keyed name (items_of pages))) → IsTrue (is_ordered (keyed name (items_at i pages)))
  ordered_at i [] h = refl
  ordered_at zero (page ∷ pages) h = ordered_front page.items (items_of pages) h
  ordered_at (suc i) (page ∷ pages) h = ordered_at i pages (ordered_rest name page.items (items_of pages) h)

  -- a list has the items of its map
  back : (items : List T) → map (λ e. e.1) (keyed name items) ≡ items
  back [] = refl
  back (x ∷ xs) = ap (λ rest. x ∷ rest) (back xs)

  same_keyed : (xs ys : List T) → keyed name xs ≡ keyed name ys → xs ≡ ys
  same_keyed xs ys h = sym (back xs) ∙ (ap (λ m. map (λ e. e.1) m) h ∙ back ys)

  keyed-set : (items : List T) (i : ℕ) (t : T) → keyed name (slice_set items i t) ≡ slice_set (keyed name items) i (name t, t)
  keyed-set items i t = map-set (λ x. (name x, x)) items i t

  keyed-insert : (items : List T) (i : ℕ) (t : T) → keyed name (insert items i t) ≡ insert (keyed name items) i (name t, t)
  keyed-insert items i t = simp (map-append, take-map, drop-map)

  keyed-remove : (items : List T) (i : ℕ) → keyed name (remove items i) ≡ remove (keyed name items) i
  keyed-remove items i = simp (map-append, take-map, drop-map)

  pub put_found : (t : T) (items : List T) (i : ℕ) → IsFoundAt (keyed name items) (name t) i → slice_set items i t ≡ put_in name t items
  put_found t items i found = same_keyed (slice_set items i t) (put_in name t items) (keyed-set items i t ∙ (sym (found.bound t) ∙ sym (keyed-put_in name t items)))

  pub put_missing : (t : T) (items : List T) (i : ℕ) → IsMissingAt (keyed name items) (name t) i → insert items i t ≡ put_in name t items
  put_missing t items i missing = same_keyed (insert items i t) (put_in name t items) (keyed-insert items i t ∙ (sym (missing.bound t) ∙ sym (keyed-put_in name t items)))

  take_found : (n : List ℕ) (items : List T) (i : ℕ) → IsFoundAt (keyed name items) n i → remove items i ≡ taken_out name n items
  take_found n items i found = same_keyed (remove items i) (taken_out name n items) (keyed-remove items i ∙ (sym found.unbound ∙ sym (keyed-taken_out name n items)))

  pub bound_is : (t : T) (pages : List (Page T)) (i : ℕ) (items : List T) → i ≡ home name (name t) pages → items ≡ put_in name t (items_at i pages) → with_page i items pages ≡ bound_in name t pages
  bound_is t pages i items at is = ap (λ xs. with_page i xs pages) is ∙ ap (λ j. with_page j (put_in name t (items_at j pages)) pages) at

  unbound_at : (n : List ℕ) (pages : List (Page T)) (i : ℕ) (o : Option T) → value_of n (keyed name (items_at i pages)) ≡ o → i ≡ home name n pages
      → cond (is_some o) (with_page i (taken_out name n (items_at i pages)) pages) pages ≡ unbound_in name n pages
  unbound_at n pages i o is at =
      ap (λ p. cond (is_some p) (with_page i (taken_out name n (items_at i pages)) pages) pages) (sym is)
      ∙ ap (λ j. cond (is_some (value_of n (keyed name (items_at j pages)))) (with_page j (taken_out name n (items_at j pages)) pages) pages) at

  pub unbound_found : (n : List ℕ) (pages : List (Page T)) (i place : ℕ) (left : List T) → i ≡ home name n pages → left ≡ remove (items_at i pages) place
      → IsFoundAt (keyed name (items_at i pages)) n place → with_page i left pages ≡ unbound_in name n pages
  unbound_found n pages i place left at is found =
      ap (λ xs. with_page i xs pages) (is ∙ take_found n (items_at i pages) place found) ∙ unbound_at n pages i (Some found.value.0.1) found.value.2 at

  pub unbound_missing : (n : List ℕ) (pages : List (Page T)) (i place : ℕ) → i ≡ home name n pages → IsMissingAt (keyed name (items_at i pages)) n place → pages ≡ unbound_in name n pages
  unbound_missing n pages i place at missing = unbound_at n pages i None missing.value at

  pub found_item : (n : List ℕ) (items : List T) (i : ℕ) (t : T) → IsFoundAt (keyed name items) n i → t ≡ get_or items i t → value_of n (keyed name items) ≡ Some t
  found_item n items i t found is =
      let e : List ℕ × T = found.value.0 in
      let inside : i < length items = (let same : length (keyed name items) ≡ length items = length-map items (λ x. (name x, x)) in omega (arith, found.within, same)) in
      let read : get_or (keyed name items) i e ≡ e = get_or_from_slice_get (keyed name items) i e e found.value.1 in
      let there : get_or (keyed name items) i e ≡ (name (get_or items i e.1), get_or items i e.1) = get_or-map (λ x. (name x, x)) items i e.1 e inside in
      found.value.2 ∙ ap Some (ap (λ p. p.1) (sym read ∙ there) ∙ (get_or_default items i e.1 t inside ∙ sym is))

  at_place : (items : List T) (i : ℕ) (d : List ℕ × T) → i < length items → get_or (keyed name items) i d ≡ (name (get_or items i d.1), get_or items i d.1)
  at_place items i d h = get_or-map (λ x. (name x, x)) items i d.1 d h

  within_keyed : (P : List ℕ × T → Type 0) (items : List T) (low high : ℕ) → high ≤ length items → AllWithin (λ x. P (name x, x)) items low high → AllWithin P (keyed name items) low high
  within_keyed P items low high h all = λ k d from below.
      let inside : k < length items = omega arith in
      subst P (sym (at_place items k d inside)) (all k d.1 from below)

  ordering_at : (n : List ℕ) (items : List T) (i : ℕ) (d : T) → i < length items → by_bytes (get_or (keyed name items) i (name d, d)).0 n ≡ by_bytes (name (get_or items i d)) n
  ordering_at n items i d h = ap (λ e. by_bytes e.0 n) (at_place items i (name d, d) h)

  rises_back : (n : List ℕ) (items : List T) → IsNonDecreasingBy (λ e. ordering_index (by_bytes e.0 n)) (keyed name items) → IsNonDecreasingBy (λ x. ordering_index (by_bytes (name x) n)) items
  rises_back n items h = λ i j d order inside.
      let first = ap ordering_index (ordering_at n items i d (omega arith)) in
      let second = ap ordering_index (ordering_at n items j d inside) in
      let keyed_inside : j < length (keyed name items) = rw length-map inside in
      omega (arith, h i j (name d, d) order keyed_inside, first, second)

  -- the result of a binary search
  pub found_among : (n : List ℕ) (items : List T) (r : Result ℕ ℕ) → IsTrue (is_ordered (keyed name items)) → IsSearchInRange r (length items) → IsBinarySearchResult (λ x. by_bytes (name x) n) items r → IsPlaceOf (keyed name items) n r
  found_among n items (Ok i) h within same =
      let inside : i < length (keyed name items) = rw length-map within in
      searched n (keyed name items) (Ok i) h inside (λ d. subst (λ (e : List ℕ × T). by_bytes e.0 n ≡ Equal) (sym (at_place items i d within)) (same d.1))
  found_among n items (Err i) h within parts_if =
      let inside : i ≤ length (keyed name items) = rw length-map within in
      searched n (keyed name items) (Err i) h inside (λ rises.
      let parts = parts_if (rises_back n items rises) in
      let below = within_keyed (λ e. by_bytes e.0 n ≡ Less) items 0 i within parts.0 in
      let above = within_keyed (λ e. by_bytes e.0 n ≡ Greater) items i (length items) (omega arith) parts.1 in
      (below, rw length-map above))

-- the pages of a list with one page changed
pub spliced_is : {T : Type 0} (i : ℕ) (items : List T) (pages before after all : List (Page T)) → all ≡ before ++ (touched_pages items ++ after) → before ≡ take i pages → after ≡ drop (i + 1) pages → all ≡ with_page i items pages
spliced_is i items pages before after all h is_before is_after =
    h
    ∙ (ap (λ xs. xs ++ (touched_pages items ++ after)) is_before
    ∙ (ap (λ xs. take i pages ++ (touched_pages items ++ xs)) (is_after ∙ ap (λ n. drop n pages) (add-one i)) ∙ sym (with_page-take i items pages)))

have_either : {T : Type 0} (b : Bool) (xs ys : List (Page T)) → HaveItems xs → HaveItems ys → HaveItems (cond b xs ys)
have_either true xs ys h k = h
have_either false xs ys h k = k

-- no page is empty afterwards
pub have_bound : {T : Type 0} (name : T → List ℕ) (t : T) (pages : List (Page T)) → HaveItems pages → HaveItems (bound_in name t pages)
have_bound name t pages h = have_with (home name (name t) pages) (put_in name t (items_at (home name (name t) pages) pages)) pages h

pub have_unbound : {T : Type 0} (name : T → List ℕ) (n : List ℕ) (pages : List (Page T)) → HaveItems pages → HaveItems (unbound_in name n pages)
have_unbound name n pages h =
    let i : ℕ = home name n pages in
    have_either (is_some (value_of n (keyed name (items_at i pages)))) (with_page i (taken_out name n (items_at i pages)) pages) pages
    (have_with i (taken_out name n (items_at i pages)) pages h) h
