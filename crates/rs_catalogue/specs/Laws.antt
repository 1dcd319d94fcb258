-- Consequences of the definitions of catalogues alone.
use Rattle.std.specs.Prelude.{◌≡◌, ℕ, List, map, option_map, All}
use Rattle.rs_record.specs.declared.record.Record.{Record}
use Rattle.rs_model.specs.declared.value.Entry.{Entry}
use Rattle.rs_model.specs.Names.{Names, value_of, bind, unbind, map_values}
use Rattle.rs_page.specs.Items.{record_format}
use Rattle.rs_page.specs.Pages.{Page, IsStored, stored_refs}
use Rattle.rs_page.specs.DiskPages.{Stands}
use Rattle.rs_page.specs.Laws.{HoldOnce, HoldByBlocks}
use Rattle.rs_catalogue.specs.Catalogue.{IsCatalogue, HoldsCatalogue}

-- Pages hold at most one catalogue.
abbrev pub CatalogueHeldOnce : Type 0
CatalogueHeldOnce = HoldOnce HoldsCatalogue

-- The catalogue that pages hold depends on their blocks alone.
abbrev pub CatalogueStays : Type 0
CatalogueStays = HoldByBlocks HoldsCatalogue

-- If all pages of a catalogue are on the disk, the references to them hold its records, so they load as this catalogue.
abbrev pub StoredCatalogueIsHeld : Type 0
StoredCatalogueIsHeld = (pages : List (Page Record)) (image : List ℕ) → IsCatalogue pages → All IsStored pages
    → All (Stands record_format image) pages → HoldsCatalogue (stored_refs pages) image (map (λ page. page.items) pages)

-- The values shown for records are bound as the records are, ..
abbrev pub ShownIsBound : Type 0
ShownIsBound = (shown : Record → Entry) (name : List ℕ) (r : Record) (records : Names Record) → map_values shown (bind name r records) ≡ bind name (shown r) (map_values shown records)

-- .. unbound ..
abbrev pub ShownIsUnbound : Type 0
ShownIsUnbound = (shown : Record → Entry) (name : List ℕ) (records : Names Record) → map_values shown (unbind name records) ≡ unbind name (map_values shown records)

-- .. and found.
abbrev pub ShownIsFound : Type 0
ShownIsFound = (shown : Record → Entry) (name : List ℕ) (records : Names Record) → value_of name (map_values shown records) ≡ option_map shown (value_of name records)
