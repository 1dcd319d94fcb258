-- Consequences of the definitions of histories alone.
use Rattle.std.specs.Prelude.{ℕ, List, map, All}
use Rattle.rs_record.specs.declared.change.Change.{Change}
use Rattle.rs_page.specs.Items.{change_format}
use Rattle.rs_page.specs.Pages.{Page, IsStored, stored_refs}
use Rattle.rs_page.specs.DiskPages.{Stands}
use Rattle.rs_page.specs.Laws.{HoldOnce, HoldByBlocks}
use Rattle.rs_changes.specs.History.{IsHistory, HoldsHistory}

-- Pages hold at most one history.
abbrev pub HistoryHeldOnce : Type 0
HistoryHeldOnce = HoldOnce HoldsHistory

-- The history that pages hold depends on their blocks alone.
abbrev pub HistoryStays : Type 0
HistoryStays = HoldByBlocks HoldsHistory

-- If all pages of a history are on the disk, the references to them hold its changes, so they load as this history.
abbrev pub StoredHistoryIsHeld : Type 0
StoredHistoryIsHeld = (pages : List (Page Change)) (image : List ℕ) → IsHistory pages → All IsStored pages
    → All (Stands change_format image) pages → HoldsHistory (stored_refs pages) image (map (λ page. page.items) pages)
