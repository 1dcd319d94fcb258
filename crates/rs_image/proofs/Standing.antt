-- A catalogue that was read is on the disk.
use Rattle.std.proofs.Common.{◌≡◌, ℕ, List, sym, ap, subst}
use Rattle.std.specs.Prelude.{All, IsTrue}
use Rattle.rs_disk.specs.Medium.{DiskState, Medium}
use Rattle.rs_disk.specs.Runs.{RunsReading}
use Rattle.rs_record.specs.declared.record.Record.{Record}
use Rattle.rs_page.specs.declared.place.PageRef.{PageRef}
use Rattle.rs_page.specs.Items.{record_format}
use Rattle.rs_page.specs.Pages.{Page, IsStored, stored_refs}
use Rattle.rs_page.specs.DiskPages.{ArePages, Stands}
use Rattle.rs_image.proofs.FromBelow.{pages_stand}
use Rattle.rs_pages.specs.Storing.{items_by_page}
use Rattle.rs_catalogue.specs.Catalogue.{HoldsCatalogue}

-- where the disk has not changed since
pub still_held : (refs : List PageRef) (pages : List (Page Record)) {A : Type 0} (mid new : DiskState) → RunsReading A mid new
    → (IsTrue mid.honest → HoldsCatalogue refs mid.now.seen (items_by_page pages)) → IsTrue new.honest → HoldsCatalogue refs new.now.seen (items_by_page pages)
still_held refs pages mid new rest found honest =
    let seen : new.now.seen ≡ mid.now.seen = ap (λ (m : Medium). m.seen) rest.now in
    subst (λ (image : List ℕ). HoldsCatalogue refs image (items_by_page pages)) (sym seen) (found (rest.runs.lasts honest))

-- all its pages lie where their entries say
pub catalogue_stands : (refs : List PageRef) (pages : List (Page Record)) {A : Type 0} (mid new : DiskState) → RunsReading A mid new → stored_refs pages ≡ refs → All IsStored pages
    → (IsTrue mid.honest → HoldsCatalogue refs mid.now.seen (items_by_page pages)) → IsTrue new.honest → All (Stands record_format new.now.seen) pages
catalogue_stands refs pages mid new rest are are_stored found honest =
    pages_stand record_format pages new.now.seen are_stored
    (subst (λ (rs : List PageRef). ArePages record_format rs new.now.seen (items_by_page pages)) (sym are) (still_held refs pages mid new rest found honest).hold)
