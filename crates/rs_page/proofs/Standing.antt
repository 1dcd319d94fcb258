-- Pages stay while their blocks keep their bytes. The stored pages of a list are those that its references point to.
use Rattle.std.proofs.Common.{◌≡◌, ℕ, Bool, true, List, [], ◌∷◌, map, Option, Some, None, sym, ◌∙◌, ap, subst}
use Rattle.std.specs.Prelude.{IfSome, IsSome}
use Rattle.std.specs.List.{cons_option}
use Rattle.std.proofs.lemmas.List.Elements.{All-nil, All-cons, All-head, All-tail}
use Rattle.rs_extent.specs.declared.Extent.{Extent}
use Rattle.rs_fixity.specs.Digests.{digests}
use Rattle.rs_extent.specs.Extents.{in_some, IsOnDisk}
use Rattle.rs_body.specs.Blocks.{part}
use Rattle.rs_body.specs.Outside.{Keeps}
use Rattle.rs_page.proofs.FromBelow.{some_first, some_rest, fits_sized, part_kept}
use Rattle.rs_page.specs.declared.place.PageRef.{PageRef}
use Rattle.rs_page.specs.declared.place.Place.{Place}
use Rattle.rs_page.specs.declared.place.Place.TheVariants.{Touched, Placed, Stored}
use Rattle.rs_page.specs.Format.{ItemFormat}
use Rattle.rs_page.specs.Pages.{IsStored, placed_extent, stored_ref, ref_at, place_stored, page_stored, extents_of, placed_extents, stored_refs, stored}
use Rattle.rs_page.specs.DiskPages.{IsPage, ArePages, IsWritten, Stands}
use Rattle.rs_page.specs.Laws.{PageStays, PagesStay, StoredPagesStay, WrittenStay, WrittenStand, StandingArePages, PagesStand}

-- one page
pub page_stays : {T : Type 0} (format : ItemFormat T) → PageStays format
page_stays format kept ref old new items all keeps is =
    let same : part ref.extent ref.length new ≡ part ref.extent ref.length old =
    part_kept kept ref.extent ref.length (fits_sized ref.extent ref.length is.blocks.sized) all old new keeps in
    record {
      blocks = record { sized = is.blocks.sized; inside = subst (λ (n : ℕ). IsOnDisk ref.extent n) (sym keeps.size) is.blocks.inside };
      bytes = same ∙ is.bytes;
      digest = ap (λ bytes. (digests bytes).sha256) same ∙ is.digest;
      lawful = is.lawful;
    }

-- pages of references
pub pages_stay : {T : Type 0} (format : ItemFormat T) → PagesStay format
pages_stay format kept [] old new [] all keeps are = are
pages_stay format kept [] old new (items ∷ pages) all keeps are = are
pages_stay format kept (ref ∷ refs) old new [] all keeps are = are
pages_stay format kept (ref ∷ refs) old new (items ∷ pages) all keeps are = (
  page_stays format kept ref old new items (λ b is. all b (some_first ref.extent (extents_of refs) b is)) keeps are.0,
  pages_stay format kept refs old new pages (λ b is. all b (some_rest ref.extent (extents_of refs) b is)) keeps are.1,
)

-- one page that is stored, before others
stays_stored : {T : Type 0} (format : ItemFormat T) (kept : ℕ → Bool) (old new : List ℕ) (items : List T) (one : Option PageRef) (refs : List PageRef)
    → ((b : ℕ) → in_some (extents_of (cons_option one refs)) b ≡ true → kept b ≡ true) → Keeps kept old new
    → (IfSome one (λ ref. IsPage format ref old items) → IfSome one (λ ref. IsPage format ref new items)) × ((b : ℕ) → in_some (extents_of refs) b ≡ true → kept b ≡ true)
stays_stored format kept old new items None refs all keeps = (λ is. is, all)
stays_stored format kept old new items (Some ref) refs all keeps = (
  λ is. page_stays format kept ref old new items (λ b within. all b (some_first ref.extent (extents_of refs) b within)) keeps is,
  λ b within. all b (some_rest ref.extent (extents_of refs) b within),
)

-- pages that are stored
pub stored_pages_stay : {T : Type 0} (format : ItemFormat T) → StoredPagesStay format
stored_pages_stay format kept [] old new all keeps are = All-nil (Stands format new)
stored_pages_stay format kept (page ∷ pages) old new all keeps are =
    let one = stays_stored format kept old new page.items (stored_ref page.place) (stored_refs pages) all keeps in
    All-cons (Stands format new) page pages (one.0 (All-head (Stands format old) page pages are))
    (stored_pages_stay format kept pages old new one.1 keeps (All-tail (Stands format old) page pages are))

-- one page that was written, before others
stays_written : {T : Type 0} (format : ItemFormat T) (kept : ℕ → Bool) (old new : List ℕ) (items : List T) (one : Option Extent) (extents : List Extent)
    → ((b : ℕ) → in_some (cons_option one extents) b ≡ true → kept b ≡ true) → Keeps kept old new
    → (IfSome one (λ extent. IsPage format (ref_at format extent items) old items) → IfSome one (λ extent. IsPage format (ref_at format extent items) new items))
    × ((b : ℕ) → in_some extents b ≡ true → kept b ≡ true)
stays_written format kept old new items None extents all keeps = (λ is. is, all)
stays_written format kept old new items (Some extent) extents all keeps = (
  λ is. page_stays format kept (ref_at format extent items) old new items (λ b within. all b (some_first extent extents b within)) keeps is,
  λ b within. all b (some_rest extent extents b within),
)

-- pages that were written
pub written_stay : {T : Type 0} (format : ItemFormat T) → WrittenStay format
written_stay format kept [] old new all keeps are = All-nil (IsWritten format new)
written_stay format kept (page ∷ pages) old new all keeps are =
    let one = stays_written format kept old new page.items (placed_extent page.place) (placed_extents pages) all keeps in
    All-cons (IsWritten format new) page pages (one.0 (All-head (IsWritten format old) page pages are))
    (written_stay format kept pages old new one.1 keeps (All-tail (IsWritten format old) page pages are))

-- a page that is present, or was written, is present once it is stored
stored_stands : {T : Type 0} (format : ItemFormat T) (image : List ℕ) (items : List T) (place : Place) → IfSome (stored_ref place) (λ ref. IsPage format ref image items)
    → IfSome (placed_extent place) (λ extent. IsPage format (ref_at format extent items) image items)
    → IfSome (stored_ref (place_stored format items place)) (λ ref. IsPage format ref image items)
stored_stands format image items Touched stands written = stands
stored_stands format image items (Placed extent) stands written = written
stored_stands format image items (Stored ref) stands written = stands

pub written_stand : {T : Type 0} (format : ItemFormat T) → WrittenStand format
written_stand format [] image stand written = All-nil (Stands format image)
written_stand format (page ∷ pages) image stand written =
    All-cons (Stands format image) (page_stored format page) (stored format pages)
    (stored_stands format image page.items page.place (All-head (Stands format image) page pages stand) (All-head (IsWritten format image) page pages written))
    (written_stand format pages image (All-tail (Stands format image) page pages stand) (All-tail (IsWritten format image) page pages written))

-- one stored page before others
one_page : {T : Type 0} (format : ItemFormat T) (image : List ℕ) (items : List T) (one : Option PageRef) (refs : List PageRef) (pages : List (List T)) → IsSome one
    → IfSome one (λ ref. IsPage format ref image items) → ArePages format refs image pages → ArePages format (cons_option one refs) image (items ∷ pages)
one_page format image items None refs pages is stands are = absurd cc
one_page format image items (Some ref) refs pages is stands are = (stands, are)

pub standing_are_pages : {T : Type 0} (format : ItemFormat T) → StandingArePages format
standing_are_pages format [] image are_stored stand = tt
standing_are_pages format (page ∷ pages) image are_stored stand =
    one_page format image page.items (stored_ref page.place) (stored_refs pages) (map (λ page. page.items) pages)
    (All-head IsStored page pages are_stored) (All-head (Stands format image) page pages stand)
    (standing_are_pages format pages image (All-tail IsStored page pages are_stored) (All-tail (Stands format image) page pages stand))

page_of : {T : Type 0} (format : ItemFormat T) (image : List ℕ) (items : List T) (one : Option PageRef) (refs : List PageRef) (pages : List (List T)) → IsSome one
    → ArePages format (cons_option one refs) image (items ∷ pages) → IfSome one (λ ref. IsPage format ref image items) × ArePages format refs image pages
page_of format image items None refs pages is are = absurd cc
page_of format image items (Some ref) refs pages is are = (are.0, are.1)

pub pages_stand : {T : Type 0} (format : ItemFormat T) → PagesStand format
pages_stand format [] image are_stored are = All-nil (Stands format image)
pages_stand format (page ∷ pages) image are_stored are =
    let one = page_of format image page.items (stored_ref page.place) (stored_refs pages) (map (λ page. page.items) pages) (All-head IsStored page pages are_stored) are in
    All-cons (Stands format image) page pages one.0 (pages_stand format pages image (All-tail IsStored page pages are_stored) one.1)
