-- The page rule on the items of all pages.
use Rattle.std.proofs.Common.{◌≡◌, ℕ, suc, List, [], ◌∷◌, ◌++◌, Bool, true, false, cond, refl, sym, ap, ◌∙◌, Option, Some, None}
use Rattle.std.specs.Prelude.{IsTrue, is_some}
use Rattle.rs_model.specs.Names.{is_ordered, value_of}
use Rattle.rs_page.specs.Pages.{Page, items_of}
use Rattle.rs_pages.specs.Items.{keyed, put_in, taken_out}
use Rattle.rs_pages.specs.Rule.{touched_pages, items_at, with_page, some_begins_by, home, bound_in, unbound_in}
use Rattle.rs_pages.proofs.InOrder.{put_later, put_here, take_later, take_here, take_absent, find_later, find_here}
use Rattle.rs_pages.proofs.Home.{ordered_rest, past_items, before_items}
use Rattle.rs_pages.proofs.Cut.{items_of-cut_first}

-- the items of the first page changed
pub first_page : {T : Type 0} (items : List T) (pages : List (Page T)) → items_of (touched_pages items ++ pages) ≡ items ++ items_of pages
first_page items pages = items_of-cut_first 32 items pages

-- one page before pages of which one may be touched
later_page : {T : Type 0} (b : Bool) (page : Page T) (new old : List (Page T)) → cond b (page ∷ new) (page ∷ old) ≡ page ∷ cond b new old
later_page true page new old = refl
later_page false page new old = refl

not_there : {T : Type 0} (o : Option T) → is_some o ≡ false → o ≡ None
not_there None h = refl
not_there (Some t) h = cc

module _ {T : Type 0} (name : T → List ℕ) where
  put_at : (t : T) (page : Page T) (pages : List (Page T)) (b : Bool) → some_begins_by name (name t) pages ≡ b → IsTrue (is_ordered (keyed name (page.items ++ items_of pages)))
      → items_of (bound_in name t pages) ≡ put_in name t (items_of pages)
      → (let i = cond b (suc (home name (name t) pages)) 0 in items_of (with_page i (put_in name t (items_at i (page ∷ pages))) (page ∷ pages))) ≡ put_in name t (page.items ++ items_of pages)
  put_at t page pages true is h next =
      ap (λ rest. page.items ++ rest) next ∙ sym (put_later name t page.items (items_of pages) (past_items name (name t) page.items pages h is))
  put_at t page pages false is h next =
      first_page (put_in name t page.items) pages ∙ sym (put_here name t page.items (items_of pages) (before_items name (name t) pages is))

  pub items_of-bound : (t : T) (pages : List (Page T)) → IsTrue (is_ordered (keyed name (items_of pages))) → items_of (bound_in name t pages) ≡ put_in name t (items_of pages)
  items_of-bound t [] h = refl
  items_of-bound t (page ∷ pages) h =
      put_at t page pages (some_begins_by name (name t) pages) refl h (items_of-bound t pages (ordered_rest name page.items (items_of pages) h))

  take_first_page : (n : List ℕ) (page : Page T) (pages : List (Page T)) (b : Bool) → is_some (value_of n (keyed name page.items)) ≡ b
      → items_of (cond b (touched_pages (taken_out name n page.items) ++ pages) (page ∷ pages)) ≡ taken_out name n page.items ++ items_of pages
  take_first_page n page pages true is = first_page (taken_out name n page.items) pages
  take_first_page n page pages false is =
      ap (λ xs. xs ++ items_of pages) (sym (take_absent name n page.items (not_there (value_of n (keyed name page.items)) is)))

  take_at : (n : List ℕ) (page : Page T) (pages : List (Page T)) (b : Bool) → some_begins_by name n pages ≡ b → IsTrue (is_ordered (keyed name (page.items ++ items_of pages)))
      → items_of (unbound_in name n pages) ≡ taken_out name n (items_of pages)
      → (let i = cond b (suc (home name n pages)) 0 in
      items_of (cond (is_some (value_of n (keyed name (items_at i (page ∷ pages))))) (with_page i (taken_out name n (items_at i (page ∷ pages))) (page ∷ pages)) (page ∷ pages)))
      ≡ taken_out name n (page.items ++ items_of pages)
  take_at n page pages true is h next =
      ap items_of (later_page (is_some (value_of n (keyed name (items_at (home name n pages) pages)))) page (with_page (home name n pages) (taken_out name n (items_at (home name n pages) pages)) pages) pages)
      ∙ (ap (λ rest. page.items ++ rest) next ∙ sym (take_later name n page.items (items_of pages) (past_items name n page.items pages h is)))
  take_at n page pages false is h next =
      take_first_page n page pages (is_some (value_of n (keyed name page.items))) refl ∙ sym (take_here name n page.items (items_of pages) (before_items name n pages is))

  pub items_of-unbound : (n : List ℕ) (pages : List (Page T)) → IsTrue (is_ordered (keyed name (items_of pages))) → items_of (unbound_in name n pages) ≡ taken_out name n (items_of pages)
  items_of-unbound n [] h = refl
  items_of-unbound n (page ∷ pages) h =
      take_at n page pages (some_begins_by name n pages) refl h (items_of-unbound n pages (ordered_rest name page.items (items_of pages) h))

  find_at : (n : List ℕ) (page : Page T) (pages : List (Page T)) (b : Bool) → some_begins_by name n pages ≡ b → IsTrue (is_ordered (keyed name (page.items ++ items_of pages)))
      → value_of n (keyed name (items_of pages)) ≡ value_of n (keyed name (items_at (home name n pages) pages))
      → value_of n (keyed name (page.items ++ items_of pages)) ≡ value_of n (keyed name (items_at (cond b (suc (home name n pages)) 0) (page ∷ pages)))
  find_at n page pages true is h next = find_later name n page.items (items_of pages) (past_items name n page.items pages h is) ∙ next
  find_at n page pages false is h next = find_here name n page.items (items_of pages) (before_items name n pages is)

  -- a name is found in the page where it goes
  pub found_at_home : (n : List ℕ) (pages : List (Page T)) → IsTrue (is_ordered (keyed name (items_of pages)))
      → value_of n (keyed name (items_of pages)) ≡ value_of n (keyed name (items_at (home name n pages) pages))
  found_at_home n [] h = refl
  found_at_home n (page ∷ pages) h =
      find_at n page pages (some_begins_by name n pages) refl h (found_at_home n pages (ordered_rest name page.items (items_of pages) h))
