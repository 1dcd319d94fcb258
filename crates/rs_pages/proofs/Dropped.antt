-- A list of pages without its first items.
use Rattle.std.proofs.Common.{◌≡◌, ℕ, zero, suc, ◌-◌, ◌<◌, ◌≤◌, List, [], ◌∷◌, ◌++◌, length, get_or, take, drop, Bool, true, false, cond, refl, sym, ap, ◌∙◌, subst, arith}
use Rattle.std.specs.Prelude.{nat_le, is_some, All}
use Rattle.std.proofs.lemmas.List.{append-nil, length-append, take_rest, drop-append-le}
use Rattle.std.proofs.lemmas.List.Elements.{All-nil, All-tail}
use Rattle.std.proofs.lemmas.Bool.Decides.{nat_tests}
use Rattle.rs_page.specs.Pages.{Page, items_of, placed_extent, placed_extents, stored_ref}
use Rattle.rs_page.specs.SharedPages.{IsSublist, stored_pages}
use Rattle.rs_pages.specs.Rule.{HaveItems, items_at}
use Rattle.rs_pages.specs.Laws.{IsFreshPage}
use Rattle.rs_pages.specs.Dropped.{full_pages, dropped_front, front_pages, ReplacesFront, TouchesFew, DropsAsOne, DroppingKeeps, DroppingHasItems, DroppingReplacesFront, DroppingTouchesFew}
use Rattle.rs_pages.proofs.Cut.{fresh_cut, have_items, items_of-cut, items_of-cut_first}
use Rattle.rs_pages.proofs.AtHome.{have_both}
use Rattle.rs_pages.proofs.Touched.{itself, drop_one, rest_none, stored_after, placed_made}

-- a property of both lists of pages is a property of the one that is taken
either : {A : Type 0} (P : A → Type 0) (b : Bool) (x y : A) → (b ≡ true → P x) → (b ≡ false → P y) → P (cond b x y)
either P true x y h k = h refl
either P false x y h k = k refl

is_whole : (a b : ℕ) → nat_le a b ≡ true → a ≤ b
is_whole a b h = grind (arith, nat_tests)

is_cut : (a b : ℕ) → nat_le a b ≡ false → b < a
is_cut a b h = grind (arith, nat_tests)

cut_in : (a b : ℕ) → b < a → nat_le a b ≡ false
cut_in a b h = grind (arith, nat_tests)

drop_all : {A : Type 0} (n : ℕ) (xs ys : List A) → length xs ≤ n → drop n (xs ++ ys) ≡ drop (n - length xs) ys
drop_all n [] ys h = ap (λ (k : ℕ). drop k ys) (omega arith)
drop_all zero (x ∷ xs) ys h = absurd (omega arith)
drop_all (suc n) (x ∷ xs) ys h = drop_all n xs ys (omega arith) ∙ ap (λ (k : ℕ). drop k ys) (omega arith)

module _ {T : Type 0} where
  abbrev Some : Page T → Type 0
  Some page = 1 ≤ length page.items

  -- full pages, and these before others: their items; they are not on the disk, and have no blocks
  full_first : (items : List T) (pages : List (Page T)) → items_of (full_pages items ++ pages) ≡ items ++ items_of pages
  full_first items pages = items_of-cut_first 64 items pages

  fresh_full : (items : List T) → All IsFreshPage (full_pages items)
  fresh_full items = fresh_cut 64 (omega arith) (omega arith) items

  stored_full : (items : List T) (pages : List (Page T)) → stored_pages (full_pages items ++ pages) ≡ stored_pages pages
  stored_full items pages = stored_after (full_pages items) pages (fresh_full items)

  placed_full : (items : List T) (pages : List (Page T)) → placed_extents (full_pages items ++ pages) ≡ placed_extents pages
  placed_full items pages = placed_made (full_pages items) pages (fresh_full items)

  -- the laws
  pub drops_as_one : DropsAsOne T
  drops_as_one zero [] = refl
  drops_as_one (suc n) [] = refl
  drops_as_one zero (page ∷ pages) = refl
  drops_as_one (suc n) (page ∷ pages) =
      either (λ (new : List (Page T)). items_of new ≡ drop (suc n) (page.items ++ items_of pages)) (nat_le (length page.items) (suc n))
      (dropped_front (suc n - length page.items) pages) (full_pages (drop (suc n) page.items) ++ pages)
      (λ is. drops_as_one (suc n - length page.items) pages ∙ sym (drop_all (suc n) page.items (items_of pages) (is_whole (length page.items) (suc n) is)))
      (λ is. let inside = is_cut (length page.items) (suc n) is in full_first (drop (suc n) page.items) pages ∙ sym (drop-append-le (suc n) page.items (items_of pages) (omega arith)))

  kept : (n : ℕ) (pages : List (Page T)) → IsSublist (stored_pages (dropped_front n pages)) (stored_pages pages)
  kept n [] = tt
  kept zero (page ∷ pages) = itself (stored_pages (page ∷ pages))
  kept (suc n) (page ∷ pages) =
      drop_one page (is_some (stored_ref page.place)) (stored_pages (dropped_front (suc n) (page ∷ pages))) (stored_pages pages)
      (either (λ (new : List (Page T)). IsSublist (stored_pages new) (stored_pages pages)) (nat_le (length page.items) (suc n))
      (dropped_front (suc n - length page.items) pages) (full_pages (drop (suc n) page.items) ++ pages)
      (λ is. kept (suc n - length page.items) pages)
      (λ is. subst (λ (stored : List (Page T)). IsSublist stored (stored_pages pages)) (sym (stored_full (drop (suc n) page.items) pages)) (itself (stored_pages pages))))

  none_placed : (n : ℕ) (pages : List (Page T)) → placed_extents pages ≡ [] → placed_extents (dropped_front n pages) ≡ []
  none_placed n [] h = refl
  none_placed zero (page ∷ pages) h = h
  none_placed (suc n) (page ∷ pages) h =
      let later = (rest_none (placed_extent page.place) (placed_extents pages) h).1 in
      either (λ (new : List (Page T)). placed_extents new ≡ []) (nat_le (length page.items) (suc n))
      (dropped_front (suc n - length page.items) pages) (full_pages (drop (suc n) page.items) ++ pages)
      (λ is. none_placed (suc n - length page.items) pages later)
      (λ is. placed_full (drop (suc n) page.items) pages ∙ later)

  pub dropping_keeps : DroppingKeeps T
  dropping_keeps n pages = (kept n pages, none_placed n pages)

  pub dropping_has_items : DroppingHasItems T
  dropping_has_items n [] h = h
  dropping_has_items zero (page ∷ pages) h = h
  dropping_has_items (suc n) (page ∷ pages) h =
      let later = All-tail Some page pages h in
      either HaveItems (nat_le (length page.items) (suc n))
      (dropped_front (suc n - length page.items) pages) (full_pages (drop (suc n) page.items) ++ pages)
      (λ is. dropping_has_items (suc n - length page.items) pages later)
      (λ is. have_both (full_pages (drop (suc n) page.items)) pages (have_items (full_pages (drop (suc n) page.items)) (fresh_full (drop (suc n) page.items))) later)

  drop_none : (n : ℕ) → [] ≡ drop n (items_of {T = T} [])
  drop_none zero = refl
  drop_none (suc n) = refl

  all_stay : (n : ℕ) (pages : List (Page T)) → TouchesFew n pages pages
  all_stay n pages =
      record { gone = []; cut = []; made = []; after = pages; was = refl; is = refl; whole = omega arith; one = omega arith; left = drop_none (n - 0); fresh = All-nil IsFreshPage }

  first_goes : (n : ℕ) (page : Page T) (pages new : List (Page T)) → length page.items ≤ n → TouchesFew (n - length page.items) pages new → TouchesFew n (page ∷ pages) new
  first_goes n page pages new whole rest =
      let sizes = length-append page.items (items_of rest.gone) in
      let within = rest.whole in
      record {
        gone = page ∷ rest.gone;
        cut = rest.cut;
        made = rest.made;
        after = rest.after;
        was = ap (λ later. page ∷ later) rest.was;
        is = rest.is;
        whole = omega (arith, sizes, within);
        one = rest.one;
        left = rest.left ∙ ap (λ (k : ℕ). drop k (items_of rest.cut)) (omega (arith, sizes, within));
        fresh = rest.fresh;
      }

  first_cut : (n : ℕ) (page : Page T) (pages : List (Page T)) → TouchesFew n (page ∷ pages) (full_pages (drop n page.items) ++ pages)
  first_cut n page pages =
      record {
        gone = [];
        cut = page ∷ [];
        made = full_pages (drop n page.items);
        after = pages;
        was = refl;
        is = refl;
        whole = omega arith;
        one = omega arith;
        left = items_of-cut 64 (drop n page.items) ∙ (ap (λ (k : ℕ). drop k page.items) (omega arith) ∙ ap (drop (n - 0)) (sym (append-nil page.items)));
        fresh = fresh_full (drop n page.items);
      }

  pub dropping_touches_few : DroppingTouchesFew T
  dropping_touches_few n [] = all_stay n []
  dropping_touches_few zero (page ∷ pages) = all_stay 0 (page ∷ pages)
  dropping_touches_few (suc n) (page ∷ pages) =
      either (TouchesFew (suc n) (page ∷ pages)) (nat_le (length page.items) (suc n))
      (dropped_front (suc n - length page.items) pages) (full_pages (drop (suc n) page.items) ++ pages)
      (λ is. first_goes (suc n) page pages (dropped_front (suc n - length page.items) pages) (is_whole (length page.items) (suc n) is) (dropping_touches_few (suc n - length page.items) pages))
      (λ is. first_cut (suc n) page pages)

  front_none : (pages : List (Page T)) → front_pages 0 pages ≡ []
  front_none [] = refl
  front_none (page ∷ pages) = refl

  none_goes : (pages : List (Page T)) → ReplacesFront 0 pages pages
  none_goes pages =
      record { made = []; after = pages; was = ap (λ front. front ++ pages) (sym (front_none pages)); is = refl; fresh = All-nil IsFreshPage }

  front_goes : (n : ℕ) (page : Page T) (pages new : List (Page T)) → ReplacesFront (suc n - length page.items) pages new → ReplacesFront (suc n) (page ∷ pages) new
  front_goes n page pages new rest =
      record { made = rest.made; after = rest.after; was = ap (λ later. page ∷ later) rest.was; is = rest.is; fresh = rest.fresh }

  front_cut : (n : ℕ) (page : Page T) (pages : List (Page T)) → suc n < length page.items → ReplacesFront (suc n) (page ∷ pages) (full_pages (drop (suc n) page.items) ++ pages)
  front_cut n page pages inside =
      let no_more : suc n - length page.items ≡ 0 = omega arith in
      record {
        made = full_pages (drop (suc n) page.items);
        after = pages;
        was = ap (λ front. page ∷ (front ++ pages)) (sym (front_none pages) ∙ ap (λ (k : ℕ). front_pages k pages) (sym no_more));
        is = refl;
        fresh = fresh_full (drop (suc n) page.items);
      }

  pub dropping_replaces_front : DroppingReplacesFront T
  dropping_replaces_front n [] = record { made = []; after = []; was = refl; is = refl; fresh = All-nil IsFreshPage }
  dropping_replaces_front zero (page ∷ pages) = none_goes (page ∷ pages)
  dropping_replaces_front (suc n) (page ∷ pages) =
      either (ReplacesFront (suc n) (page ∷ pages)) (nat_le (length page.items) (suc n))
      (dropped_front (suc n - length page.items) pages) (full_pages (drop (suc n) page.items) ++ pages)
      (λ is. front_goes n page pages (dropped_front (suc n - length page.items) pages) (dropping_replaces_front (suc n - length page.items) pages))
      (λ is. front_cut n page pages (is_cut (length page.items) (suc n) is))

  -- one page as the code meets it
  stay : (pages : List (Page T)) → dropped_front 0 pages ≡ pages
  stay [] = refl
  stay (page ∷ pages) = refl

  cut_first : (n : ℕ) (page : Page T) (pages : List (Page T)) → 0 < n → n < length page.items → dropped_front n (page ∷ pages) ≡ full_pages (drop n page.items) ++ pages
  cut_first zero page pages some h = absurd (omega arith)
  cut_first (suc n) page pages some h =
      ap (λ b. cond b (dropped_front (suc n - length page.items) pages) (full_pages (drop (suc n) page.items) ++ pages)) (cut_in (length page.items) (suc n) h)

  page_cut : (n : ℕ) (pages : List (Page T)) (page : Page T) → 0 < n → n < length (items_at 0 pages) → page ≡ get_or pages 0 page
      → full_pages (drop n page.items) ++ drop 1 pages ≡ dropped_front n pages
  page_cut n [] page some h is = absurd (omega arith)
  page_cut n (first ∷ pages) page some h is = ap (λ (it : Page T). full_pages (drop n it.items) ++ pages) is ∙ sym (cut_first n first pages some h)

  -- the remaining pages, as the code has them
  pub stays_is : (n : ℕ) (pages left new : List (Page T)) → n ≡ 0 → left ≡ [] → new ≡ left ++ pages → new ≡ dropped_front n pages
  stays_is n pages left new none is_left is_new =
      is_new ∙ (ap (λ front. front ++ pages) is_left ∙ (sym (stay pages) ∙ ap (λ (k : ℕ). dropped_front k pages) (sym none)))

  pub cut_is : (n : ℕ) (pages left mid new : List (Page T)) (page : Page T) (items cut : List T) → 0 < n → n < length (items_at 0 pages) → page ≡ get_or pages 0 page → items ≡ page.items
      → cut ≡ take (length items - n) (drop n items) → left ≡ [] → mid ≡ left ++ full_pages cut → new ≡ mid ++ take (length pages - 1) (drop 1 pages) → new ≡ dropped_front n pages
  cut_is n pages left mid new page items cut some h at is_items is_cut is_left is_mid is_new =
      let rest : List (Page T) = take (length pages - 1) (drop 1 pages) in
      is_new
      ∙ (ap (λ front. front ++ rest) (is_mid ∙ ap (λ front. front ++ full_pages cut) is_left)
      ∙ (ap (λ xs. full_pages xs ++ rest) (is_cut ∙ (take_rest items n ∙ ap (drop n) is_items))
      ∙ (ap (λ later. full_pages (drop n page.items) ++ later) (take_rest pages 1) ∙ page_cut n pages page some h at)))

  pub left_is : (n k m : ℕ) (pages first second new : List (Page T)) → first ≡ pages → second ≡ pages → dropped_front n first ≡ dropped_front m (drop k first)
      → new ≡ dropped_front m (take (length second - k) (drop k second)) → new ≡ dropped_front n pages
  left_is n k m pages first second new is_first is_second dropped is_new =
      is_new
      ∙ (ap (dropped_front m) (take_rest second k)
      ∙ (ap (λ later. dropped_front m (drop k later)) (is_second ∙ sym is_first) ∙ (sym dropped ∙ ap (dropped_front n) is_first)))
