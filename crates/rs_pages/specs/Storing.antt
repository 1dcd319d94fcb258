-- The results of placing, writing and reading pages.
use Rattle.std.specs.Prelude.{◌≡◌, ◌≤◌, ◌⊎◌, ℕ, Bool, not, List, [], length, map, filter, flat_map, All}
use Rattle.std.specs.List.{AllZip, list_any}
use Rattle.rs_disk.specs.Medium.{DiskState}
use Rattle.rs_disk.specs.Runs.{RunsReading, CallsAtMost}
use Rattle.rs_extent.specs.Extents.{AreTaken}
use Rattle.rs_body.specs.Outside.{WritesOnly}
use Rattle.rs_record.specs.Limits.{most_items}
use Rattle.rs_page.specs.declared.place.PageRef.{PageRef}
use Rattle.rs_page.specs.Format.{ItemFormat}
use Rattle.rs_page.specs.Pages.{Page, IsTouched, IsStored, items_of, same_page, placed_extents, page_stored, stored, stored_refs}
use Rattle.rs_page.specs.Placing.{Places}
use Rattle.rs_page.specs.DiskPages.{IsWritten, ArePages}

-- the items of every page
abbrev pub items_by_page : {T : Type 0} → List (Page T) → List (List T)
items_by_page pages = map (λ page. page.items) pages

-- Every touched page gets the lowest run of free blocks of its size, one page after the other, and no page is touched
-- any more. Where no page had blocks that are not written to, the blocks that are taken are those that pages have now.
pub record PlacesTouched {T : Type 0} (format : ItemFormat T) (used : List Bool) (old : List (Page T)) (used' : List Bool) (new : List (Page T)) : Type 0 where
  pub places : Places format used old used' new
  pub placed : All (λ page. ¬ IsTouched page.place) new
  pub taken : placed_extents old ≡ [] → AreTaken used used' (placed_extents new)

-- Every page that was given blocks is stored, and its blocks hold it.
pub record StoresTouched {T : Type 0} (format : ItemFormat T) (image : List ℕ) (old new : List (Page T)) : Type 0 where
  pub pages : new ≡ stored format old
  pub reads : All (IsWritten format image) old

-- a page is as it was, or it is written and stored
abbrev pub StaysOrIsStored : {T : Type 0} → ItemFormat T → List ℕ → Page T → Page T → Type 0
StaysOrIsStored format image old new = (new ≡ old) ⊎ ((new ≡ page_stored format old) × IsWritten format image old)

-- Every page has the items that it had, and is as it was, or it is written and stored.
pub record StoresSome {T : Type 0} (format : ItemFormat T) (image : List ℕ) (old new : List (Page T)) : Type 0 where
  pub items : items_by_page new ≡ items_by_page old
  pub each : AllZip (StaysOrIsStored format image) old new

-- A run that writes pages: it writes only the blocks that they were given, and makes at most one call a page. `told`:
-- its answer reports a fault of the device.
pub record WritesPages {T : Type 0} (pages : List (Page T)) (told : Type 0) (old new : DiskState) : Type 0 where
  pub writes : WritesOnly (placed_extents pages) told old new
  pub one_each : CallsAtMost (length (placed_extents pages)) old new

-- A run that reads the pages of references: it changes nothing, and makes at most one call a page. `told`: its answer
-- reports a fault of the device.
pub record ReadsPages (refs : List PageRef) (told : Type 0) (old new : DiskState) : Type 0 where
  pub runs : RunsReading told old new
  pub one_each : CallsAtMost (length refs) old new

-- These pages are on the disk, at these references in order, and have no more than 50,000 items in all.
pub record AreStoredAt {T : Type 0} (refs : List PageRef) (pages : List (Page T)) : Type 0 where
  pub named : stored_refs pages ≡ refs
  pub stored : All IsStored pages
  pub room : length (items_of pages) ≤ most_items

-- the references that are not among the others
abbrev pub unshared : List PageRef → List PageRef → List PageRef
unshared refs others = filter (λ ref. not (list_any (same_page ref) others)) refs

-- The pages of references hold these items, page for page, no more than 50,000 in all.
pub record HoldItems {T : Type 0} (format : ItemFormat T) (refs : List PageRef) (image : List ℕ) (pages : List (List T)) : Type 0 where
  pub hold : ArePages format refs image pages
  pub room : length (flat_map (λ items. items) pages) ≤ most_items

-- the pages of references hold no items
abbrev pub HoldNoItems : {T : Type 0} → ItemFormat T → List PageRef → List ℕ → Type 0
HoldNoItems {T} format refs image = (held : List (List T)) → ¬ HoldItems format refs image held
