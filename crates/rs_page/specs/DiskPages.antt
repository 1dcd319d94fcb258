-- The pages that a disk holds.
use Rattle.std.specs.Prelude.{◌≡◌, ℕ, List, length, IfSome}
use Rattle.std.specs.List.{AllZip}
use Rattle.rs_fixity.specs.Digests.{digests}
use Rattle.rs_extent.specs.Extents.{IsOnDisk}
use Rattle.rs_body.specs.Blocks.{IsSized, part}
use Rattle.rs_page.specs.declared.place.PageRef.{PageRef}
use Rattle.rs_page.specs.Format.{ItemFormat, page_bytes, ArePageItems}
use Rattle.rs_page.specs.Pages.{Page, placed_extent, stored_ref, ref_at}

-- The extent of a page has exactly the blocks of the page's length, all on a disk of this many bytes.
pub record HasItsBlocks (size : ℕ) (ref : PageRef) : Type 0 where
  pub sized : IsSized ref.extent ref.length
  pub inside : IsOnDisk ref.extent size

-- At the target of a reference, the bytes of a disk are a page of these items.
pub record IsPage {T : Type 0} (format : ItemFormat T) (ref : PageRef) (image : List ℕ) (items : List T) : Type 0 where
  pub blocks : HasItsBlocks (length image) ref
  pub bytes : part ref.extent ref.length image ≡ page_bytes format items
  pub digest : (digests (part ref.extent ref.length image)).sha256 ≡ ref.sha256
  pub lawful : ArePageItems format items

-- At the target of a reference, the bytes of a disk are no page of items of this format.
abbrev pub HoldsNoPage : {T : Type 0} → ItemFormat T → PageRef → List ℕ → Type 0
HoldsNoPage {T} format ref image = (items : List T) → ¬ IsPage format ref image items

-- the lists of items that the pages of these references hold, one for one
abbrev pub ArePages : {T : Type 0} → ItemFormat T → List PageRef → List ℕ → List (List T) → Type 0
ArePages format refs image pages = AllZip (λ ref items. IsPage format ref image items) refs pages

-- a page that was given blocks is present in them
abbrev pub IsWritten : {T : Type 0} → ItemFormat T → List ℕ → Page T → Type 0
IsWritten format image page =
    IfSome (placed_extent page.place) (λ extent. IsPage format (ref_at format extent page.items) image page.items)

-- a page that is stored is present at the target of its reference
abbrev pub Stands : {T : Type 0} → ItemFormat T → List ℕ → Page T → Type 0
Stands format image page = IfSome (stored_ref page.place) (λ ref. IsPage format ref image page.items)
