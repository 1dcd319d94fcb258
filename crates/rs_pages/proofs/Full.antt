-- A list that is cut into full pages.
use Rattle.std.proofs.Common.{◌≡◌, List, [], ◌∷◌, ◌++◌, map, refl, ap, ◌∙◌, arith, Result, Ok, Err}
use Rattle.std.specs.Prelude.{IfOk}
use Rattle.rs_page.specs.Pages.{Page, items_of, placed_extents, stored_refs}
use Rattle.rs_pages.specs.Rule.{touched, HaveItems}
use Rattle.rs_pages.specs.Dropped.{cut_full, full_pages}
use Rattle.rs_pages.proofs.Cut.{have_items, fresh_cut, items_of-cut}

module _ {T : Type 0} where
  none_placed : (groups : List (List T)) → placed_extents (map touched groups) ≡ []
  none_placed [] = refl
  none_placed (group ∷ groups) = none_placed groups

  none_stored : (groups : List (List T)) → stored_refs (map touched groups) ≡ []
  none_stored [] = refl
  none_stored (group ∷ groups) = none_stored groups

  -- it has its items, and its pages are not empty, have no blocks and are not on the disk
  pub full_items : (items : List T) → items_of (full_pages items) ≡ items
  full_items items = items_of-cut 64 items

  pub full_have : (items : List T) → HaveItems (full_pages items)
  full_have items = have_items (full_pages items) (fresh_cut 64 (omega arith) (omega arith) items)

  pub full_unplaced : (items : List T) → placed_extents (full_pages items) ≡ []
  full_unplaced items = none_placed (cut_full items)

  pub full_unstored : (items : List T) → stored_refs (full_pages items) ≡ []
  full_unstored items = none_stored (cut_full items)

  -- the list of these pages, where it was made
  pub made_is : {E : Type 0} (items : List T) (start pages : List (Page T)) → start ≡ [] → pages ≡ start ++ full_pages items → (result : Result (List (Page T)) E) → IfOk result (λ made. made ≡ pages)
      → IfOk result (λ made. made ≡ full_pages items)
  made_is items start pages none is (Ok made) same = same ∙ (is ∙ ap (λ front. front ++ full_pages items) none)
  made_is items start pages none is (Err fault) same = tt

  pub made_has : {E B : Type 0} (items : List T) (f : List (Page T) → B) (b : B) → f (full_pages items) ≡ b → (result : Result (List (Page T)) E) → IfOk result (λ made. made ≡ full_pages items)
      → IfOk result (λ made. f made ≡ b)
  made_has items f b has (Ok made) same = ap f same ∙ has
  made_has items f b has (Err fault) same = tt
