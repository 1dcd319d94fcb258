-- Laws that follow from the definitions of pages alone.
use Rattle.std.specs.Prelude.{◌≡◌, ℕ, Bool, true, List, map, All}
use Rattle.rs_extent.specs.Extents.{within, in_some}
use Rattle.rs_body.specs.Outside.{Keeps}
use Rattle.rs_page.specs.declared.place.PageRef.{PageRef}
use Rattle.rs_page.specs.Format.{ItemFormat}
use Rattle.rs_page.specs.Pages.{Page, IsStored, extents_of, placed_extents, stored_refs, stored}
use Rattle.rs_page.specs.DiskPages.{IsPage, ArePages, IsWritten, Stands}

-- The bytes at a reference are a page of at most one list of items.
abbrev pub PageHoldsOnce : {T : Type 0} → ItemFormat T → Type 0
PageHoldsOnce {T} format = (ref : PageRef) (image : List ℕ) (a b : List T) → IsPage format ref image a → IsPage format ref image b → a ≡ b

-- The pages of references hold at most one list of lists of items in the bytes of a disk.
abbrev pub HoldOnce : {T : Type 0} → (List PageRef → List ℕ → List (List T) → Type 0) → Type 0
HoldOnce {T} Hold = (refs : List PageRef) (image : List ℕ) (a b : List (List T)) → Hold refs image a → Hold refs image b → a ≡ b

-- The content of the pages depends on their blocks alone.
abbrev pub HoldByBlocks : {T : Type 0} → (List PageRef → List ℕ → List (List T) → Type 0) → Type 0
HoldByBlocks {T} Hold = (kept : ℕ → Bool) (refs : List PageRef) (old new : List ℕ) (pages : List (List T))
    → ((b : ℕ) → in_some (extents_of refs) b ≡ true → kept b ≡ true) → Keeps kept old new → Hold refs old pages → Hold refs new pages

-- The pages of references are pages of at most one list of lists of items.
abbrev pub PagesHoldOnce : {T : Type 0} → ItemFormat T → Type 0
PagesHoldOnce format = HoldOnce (ArePages format)

-- A page stays if its blocks keep their bytes.
abbrev pub PageStays : {T : Type 0} → ItemFormat T → Type 0
PageStays {T} format = (kept : ℕ → Bool) (ref : PageRef) (old new : List ℕ) (items : List T)
    → ((b : ℕ) → within ref.extent b ≡ true → kept b ≡ true) → Keeps kept old new → IsPage format ref old items → IsPage format ref new items

-- Pages stay if their blocks keep their bytes.
abbrev pub PagesStay : {T : Type 0} → ItemFormat T → Type 0
PagesStay format = HoldByBlocks (ArePages format)

-- Pages that are stored and present stay present if their blocks keep their bytes, ..
abbrev pub StoredPagesStay : {T : Type 0} → ItemFormat T → Type 0
StoredPagesStay {T} format = (kept : ℕ → Bool) (pages : List (Page T)) (old new : List ℕ)
    → ((b : ℕ) → in_some (extents_of (stored_refs pages)) b ≡ true → kept b ≡ true) → Keeps kept old new
    → All (Stands format old) pages → All (Stands format new) pages

-- .. and so do those that were written into the blocks that they were given.
abbrev pub WrittenStay : {T : Type 0} → ItemFormat T → Type 0
WrittenStay {T} format = (kept : ℕ → Bool) (pages : List (Page T)) (old new : List ℕ)
    → ((b : ℕ) → in_some (placed_extents pages) b ≡ true → kept b ≡ true) → Keeps kept old new
    → All (IsWritten format old) pages → All (IsWritten format new) pages

-- If the stored pages are present and the placed ones are written, all of them are present once they are stored.
abbrev pub WrittenStand : {T : Type 0} → ItemFormat T → Type 0
WrittenStand {T} format = (pages : List (Page T)) (image : List ℕ)
    → All (Stands format image) pages → All (IsWritten format image) pages → All (Stands format image) (stored format pages)

-- If all pages are stored and present, the references to them are references to pages of their items, ..
abbrev pub StandingArePages : {T : Type 0} → ItemFormat T → Type 0
StandingArePages {T} format = (pages : List (Page T)) (image : List ℕ) → All IsStored pages
    → All (Stands format image) pages → ArePages format (stored_refs pages) image (map (λ page. page.items) pages)

-- .. and if they are, the pages are present.
abbrev pub PagesStand : {T : Type 0} → ItemFormat T → Type 0
PagesStand {T} format = (pages : List (Page T)) (image : List ℕ) → All IsStored pages
    → ArePages format (stored_refs pages) image (map (λ page. page.items) pages) → All (Stands format image) pages
