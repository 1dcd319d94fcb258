-- The places of the pages on the disk in a list.
use Rattle.std.specs.Prelude.{◌≡◌, List, map, All, Some}
use Rattle.std.specs.List.Sorted.{IsPermutation}
use Rattle.rs_page.specs.Pages.{Page, stored_refs}
use Rattle.rs_pages.specs.declared.beside.EntryAt.{EntryAt}
use Rattle.rs_pages.specs.Entries.{entry_at}

-- Entries with places of a list of pages: every entry is that of the page at its place, and they are those of all pages
-- on the disk, in some order.
pub record AreEntries {T : Type 0} (pages : List (Page T)) (entries : List EntryAt) : Type 0 where
  pub placed : All (λ at. entry_at at.place pages ≡ Some at.entry) entries
  pub all : IsPermutation (stored_refs pages) (map (λ at. at.entry) entries)
