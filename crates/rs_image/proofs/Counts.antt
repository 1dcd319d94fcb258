-- The number of pages of a list.
use Rattle.std.proofs.Common.{◌≡◌, ◌+◌, ◌≤◌, List, [], ◌∷◌, length, Option, Some, None, refl, arith, length-append}
use Rattle.std.specs.Prelude.{All, IsSome}
use Rattle.std.specs.List.{cons_option}
use Rattle.std.proofs.lemmas.List.Elements.{All-head, All-tail}
use Rattle.rs_record.specs.declared.record.Record.{Record}
use Rattle.rs_record.specs.declared.change.Change.{Change}
use Rattle.rs_record.specs.Limits.{most_items}
use Rattle.rs_page.specs.declared.place.PageRef.{PageRef}
use Rattle.rs_page.specs.Pages.{Page, IsStored, stored_ref, stored_refs, items_of}
use Rattle.rs_catalogue.specs.Catalogue.{IsCatalogue}
use Rattle.rs_changes.specs.History.{IsHistory}

-- a page has items
abbrev pub HasItems : {T : Type 0} → Page T → Type 0
HasItems page = 1 ≤ length page.items

-- so there are no more pages than items
few_pages : {T : Type 0} (pages : List (Page T)) → All HasItems pages → length pages ≤ length (items_of pages)
few_pages [] some = omega arith
few_pages (page ∷ pages) some =
    omega (arith, All-head HasItems page pages some, length-append page.items (items_of pages), few_pages pages (All-tail HasItems page pages some))

pub few_catalogue : (pages : List (Page Record)) → IsCatalogue pages → length pages ≤ most_items
few_catalogue pages lawful = omega (arith, few_pages pages lawful.some, lawful.held.room)

pub few_history : (pages : List (Page Change)) → IsHistory pages → length pages ≤ most_items
few_history pages lawful = omega (arith, few_pages pages lawful.some, lawful.kept.room)

count_one : (o : Option PageRef) (refs : List PageRef) → IsSome o → length (cons_option o refs) ≡ 1 + length refs
count_one None refs h = cc
count_one (Some ref) refs h = omega arith

-- as many references as pages, where all pages are stored
pub count_refs : {T : Type 0} (pages : List (Page T)) → All IsStored pages → length (stored_refs pages) ≡ length pages
count_refs [] h = refl
count_refs (page ∷ pages) h =
    omega (arith, count_one (stored_ref page.place) (stored_refs pages) (All-head IsStored page pages h), count_refs pages (All-tail IsStored page pages h))
