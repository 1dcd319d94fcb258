-- One list of pages of a plan: its stored pages are kept, and those that were touched got places.
use Rattle.std.proofs.Common.{◌≡◌, ℕ, ◌<◌, ◌≤◌, Bool, true, List, [], length, sym, ◌∙◌, subst}
use Rattle.std.specs.Prelude.{All}
use Rattle.rs_extent.specs.Extents.{in_some, AreApart, AreDisjoint, AreTaken, IsSubset}
use Rattle.rs_page.specs.declared.place.PageRef.{PageRef}
use Rattle.rs_page.specs.Format.{ItemFormat}
use Rattle.rs_page.specs.Pages.{Page, IsStored, IsTouched, items_of, placed_extents, stored, stored_ref, stored_refs, extents_of}
use Rattle.rs_page.specs.Placing.{Places}
use Rattle.rs_page.specs.SharedPages.{IsSublist, KeepsPages, stored_pages}
use Rattle.rs_directory.specs.Directory.{IsLawfulRef}
use Rattle.rs_plan.proofs.FromBelow.{count_refs}
use Rattle.rs_plan.proofs.Placing.{places_fitted, places_items, places_length, places_stored}
use Rattle.rs_plan.proofs.Stored.{all_stored, lawful_refs, length_stored, refs_kept, stored_apart, stored_items}
use Rattle.rs_plan.proofs.Sublists.{all_of, apart_of, filter_mapped, mapped, some_of}

pub record GetsPlaces {T : Type 0} (format : ItemFormat T) (old pages placed : List (Page T)) : Type 0 where
  pub used : List Bool
  pub after : List Bool
  pub keeps : KeepsPages old pages
  pub unplaced : placed_extents pages ≡ []
  pub places : Places format used pages after placed
  pub takes : AreTaken used after (placed_extents placed)
  pub untouched : All (λ page. ¬ IsTouched page.place) placed

module _ {T : Type 0} {format : ItemFormat T} {old pages placed : List (Page T)} (gets : GetsPlaces format old pages placed) where
  -- the pages that are kept, and their references
  pub keeps_placed : KeepsPages old placed
  keeps_placed = subst (λ (l : List (Page T)). IsSublist l (stored_pages old)) (sym (places_stored format gets.used gets.after pages placed gets.places)) gets.keeps

  pub kept : IsSublist (stored_refs placed) (stored_refs old)
  kept =
      subst (λ (l : List PageRef). IsSublist l (stored_refs old)) (refs_kept placed)
      (subst (λ (l : List PageRef). IsSublist (stored_refs (stored_pages placed)) l) (refs_kept old)
      (filter_mapped (λ page. stored_ref page.place) (stored_pages placed) (stored_pages old) keeps_placed))

  pub some_kept : IsSubset (in_some (extents_of (stored_refs placed))) (in_some (extents_of (stored_refs old)))
  some_kept = some_of (extents_of (stored_refs placed)) (extents_of (stored_refs old)) (mapped (λ ref. ref.extent) (stored_refs placed) (stored_refs old) kept)

  -- the items, before the pages are stored and after
  pub same_items : items_of placed ≡ items_of pages
  same_items = places_items format gets.used gets.after pages placed gets.places

  pub same_stored : items_of (stored format placed) ≡ items_of pages
  same_stored = stored_items format placed ∙ same_items

  -- all pages are stored then, ..
  pub are_stored : All IsStored (stored format placed)
  are_stored = all_stored format placed gets.untouched

  pub count : length (stored_refs (stored format placed)) ≡ length pages
  count = count_refs (stored format placed) are_stored ∙ length_stored format placed ∙ places_length format gets.used gets.after pages placed gets.places

  -- .. with lawful references, and apart
  pub lawful : (n : ℕ) → n ≤ 8388608 → All IsLawfulRef (stored_refs old) → ((b : ℕ) → in_some (placed_extents placed) b ≡ true → (2 ≤ b) × (b < n))
      → All IsLawfulRef (stored_refs (stored format placed))
  lawful n most are_lawful inside =
      lawful_refs format placed n most (places_fitted format gets.used gets.after pages placed gets.places gets.unplaced)
      (all_of IsLawfulRef (stored_refs placed) (stored_refs old) kept are_lawful) inside

  pub apart : AreApart (extents_of (stored_refs old)) → AreDisjoint (in_some (extents_of (stored_refs placed))) (in_some (placed_extents placed))
      → AreApart (extents_of (stored_refs (stored format placed)))
  apart were_apart beside =
      stored_apart format placed
      (apart_of (extents_of (stored_refs placed)) (extents_of (stored_refs old)) (mapped (λ ref. ref.extent) (stored_refs placed) (stored_refs old) kept) were_apart)
      gets.takes.apart beside
