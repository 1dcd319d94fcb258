-- Entries of pages in a list, found by their places and by a walk.
use Rattle.std.proofs.Common.{◌≡◌, ℕ, zero, suc, Bool, ◌||◌, List, [], ◌∷◌, Some, None, refl, ap}
use Rattle.std.specs.Prelude.{slice_get}
use Rattle.std.specs.List.{list_any}
use Rattle.rs_page.specs.declared.place.PageRef.{PageRef}
use Rattle.rs_page.specs.declared.place.Place.{Place}
use Rattle.rs_page.specs.declared.place.Place.TheVariants.{Touched, Placed, Stored}
use Rattle.rs_page.specs.Pages.{Page, same_page, stored_ref, stored_refs}
use Rattle.rs_pages.specs.Entries.{entry_at, is_entry}

module _ {T : Type 0} where
  -- The entry at a place is that of the page there, or none.
  pub entry_at_some : (i : ℕ) (pages : List (Page T)) (page : Page T) → slice_get pages i ≡ Some page → entry_at i pages ≡ stored_ref page.place
  entry_at_some i [] page h = cc
  entry_at_some zero (first ∷ pages) page h = let same : first ≡ page = cc in ap (λ it. stored_ref it.place) same
  entry_at_some (suc i) (first ∷ pages) page h = entry_at_some i pages page h

  pub entry_at_none : (i : ℕ) (pages : List (Page T)) → slice_get pages i ≡ None → entry_at i pages ≡ None
  entry_at_none i [] h = refl
  entry_at_none zero (first ∷ pages) h = cc
  entry_at_none (suc i) (first ∷ pages) h = entry_at_none i pages h

  one_more : (entry : PageRef) (place : Place) (items : List T) (pages : List (Page T)) (rest : Bool) → rest ≡ list_any (same_page entry) (stored_refs pages)
      → (is_entry entry (stored_ref place) || rest) ≡ list_any (same_page entry) (stored_refs (record { items = items; place = place } ∷ pages))
  one_more entry Touched items pages rest is = is
  one_more entry (Placed extent) items pages rest is = is
  one_more entry (Stored own) items pages rest is = ap (λ b. same_page entry own || b) is

  -- A walk over the pages finds an entry where they have it.
  pub some_is_at : (entry : PageRef) (pages : List (Page T)) → list_any (λ page. is_entry entry (stored_ref page.place)) pages ≡ list_any (same_page entry) (stored_refs pages)
  some_is_at entry [] = refl
  some_is_at entry (page ∷ pages) = one_more entry page.place page.items pages _ (some_is_at entry pages)
