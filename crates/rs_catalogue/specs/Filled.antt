-- Records, one of which got digests.
use Rattle.std.specs.Prelude.{ℕ, List}
use Rattle.rs_fixity.specs.declared.Digests.{Digests}
use Rattle.rs_record.specs.declared.record.Record.{Record}
use Rattle.rs_page.specs.Items.{record_filled}
use Rattle.rs_page.specs.Pages.{Page}
use Rattle.rs_pages.specs.Filled.{items_filled, named_filled}

-- the records, where the record of this name, if it exists, has these digests
abbrev pub fill_in : List ℕ → Digests → List Record → List Record
fill_in name digests records = items_filled (λ (r : Record). r.name) (record_filled digests) name records

-- the same for pages, which stay in their places
abbrev pub pages_filled : List ℕ → Digests → List (Page Record) → List (Page Record)
pages_filled name digests pages = named_filled (λ (r : Record). r.name) (record_filled digests) name pages
