-- A catalogue: records in the strictly ascending order of their names, in pages.
use Rattle.std.specs.Prelude.{◌≤◌, ℕ, List, length, flat_map, All, IsTrue}
use Rattle.rs_record.specs.declared.record.Record.{Record}
use Rattle.rs_model.specs.Names.{is_ordered}
use Rattle.rs_model.specs.State.{most_resources}
use Rattle.rs_page.specs.declared.place.PageRef.{PageRef}
use Rattle.rs_page.specs.Items.{record_format}
use Rattle.rs_page.specs.Pages.{Page, items_of}
use Rattle.rs_page.specs.DiskPages.{ArePages}
use Rattle.rs_pages.specs.Filled.{StandsUnstored as NameStandsUnstored}
use Rattle.rs_catalogue.specs.Named.{named}

-- the records of a list of pages, in their order
abbrev pub records_of : List (Page Record) → List Record
records_of pages = items_of pages

-- Names strictly rise, and there are at most as many records as a source holds.
pub record AreHeld (records : List Record) : Type 0 where
  pub ordered : IsTrue (is_ordered (named records))
  pub room : length records ≤ most_resources

-- The invariant of a catalogue: every page has records, and the names strictly rise through all pages.
pub record IsCatalogue (pages : List (Page Record)) : Type 0 where
  pub some : All (λ page. 1 ≤ length page.items) pages
  pub held : AreHeld (records_of pages)

-- the name is in a page that is not on the disk
abbrev pub StandsUnstored : List ℕ → List (Page Record) → Type 0
StandsUnstored name pages = NameStandsUnstored (λ (r : Record). r.name) name pages

-- The references lead to pages on the disk with these records, page by page. The names strictly rise through all pages.
pub record HoldsCatalogue (refs : List PageRef) (image : List ℕ) (pages : List (List Record)) : Type 0 where
  pub hold : ArePages record_format refs image pages
  pub held : AreHeld (flat_map (λ items. items) pages)

-- The pages of references hold no catalogue.
abbrev pub HoldsNoCatalogue : List PageRef → List ℕ → Type 0
HoldsNoCatalogue refs image = (records : List (List Record)) → ¬ HoldsCatalogue refs image records
