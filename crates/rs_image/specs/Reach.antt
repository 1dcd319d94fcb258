-- The blocks of a disk that a root reaches.
use Rattle.std.specs.Prelude.{◌<◌, ◌≤◌, ◌/◌, ◌≡◌, ℕ, Bool, true, ◌||◌, nat_lt, min, List, ◌∷◌, ◌++◌, map}
use Rattle.rs_extent.specs.Blocks.{block_size}
use Rattle.rs_extent.specs.declared.Extent.{Extent}
use Rattle.rs_extent.specs.Extents.{in_some}
use Rattle.rs_commit.specs.declared.root.Root.{Root}
use Rattle.rs_record.specs.declared.record.Record.{Record}
use Rattle.rs_page.specs.Pages.{stored_refs, extents_of}
use Rattle.rs_pages.specs.Storing.{unshared}
use Rattle.rs_catalogue.specs.Catalogue.{records_of}
use Rattle.rs_image.specs.declared.contents.Contents.{Contents}

-- the number of usable blocks of a disk of this many bytes: whole ones, and at most 8,388,608
abbrev pub blocks_of_disk : ℕ → ℕ
blocks_of_disk size = min (size / block_size) 8388608

-- the blocks of the bodies of these records
abbrev pub bodies_of : List Record → List Extent
bodies_of records = map (λ r. r.extent) records

-- The extents that a root reaches, other than the slots: its directory, the catalogue pages, the change pages, the
-- published pages, of which one that is also a catalogue page counts once, and the bodies of the catalogue's records.
-- It does not reach a body that only a published record names.
abbrev pub reach : Root → Contents → List Extent
reach root c =
    root.directory
    ∷ extents_of (stored_refs c.catalogue) ++ extents_of (stored_refs c.history.pages)
    ++ extents_of (unshared (stored_refs c.published) (stored_refs c.catalogue)) ++ bodies_of (records_of c.catalogue)

-- a block is a slot's, or the root reaches it
abbrev pub is_kept : Root → Contents → ℕ → Bool
is_kept root c b = nat_lt b 2 || in_some (reach root c) b

-- all blocks of the extents are after the slots, among the usable blocks of a disk of this many bytes
abbrev pub AreInside : ℕ → List Extent → Type 0
AreInside size extents = (b : ℕ) → in_some extents b ≡ true → (2 ≤ b) × (b < blocks_of_disk size)
