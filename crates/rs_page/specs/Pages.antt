-- Pages as a program holds them: their items and their places.
use Rattle.std.specs.Prelude.{◌≡◌, ◌≤◌, ℕ, Bool, ◌&&◌, nat_eq, bytes_eq, List, length, map, flat_map, filter_map, Option, Some, None, IsSome, IfSome}
use Rattle.rs_record.specs.Limits.{most_items}
use Rattle.rs_extent.specs.declared.Extent.{Extent}
use Rattle.rs_fixity.specs.Digests.{digests}
use Rattle.rs_body.specs.Blocks.{blocks_of}
use Rattle.rs_page.specs.declared.place.PageRef.{PageRef}
use Rattle.rs_page.specs.declared.place.Place.{Place}
use Rattle.rs_page.specs.declared.place.Place.TheVariants.{Touched, Placed, Stored}
use Rattle.rs_page.specs.Format.{ItemFormat, page_bytes}

-- a page of a list, as its callers see it
pub record Page (T : Type 0) : Type 0 where
  pub items : List T
  pub place : Place

-- one fact of a page that is touched, another of a page that is not
abbrev pub WhereTouched : Place → Type 0 → Type 0 → Type 0
WhereTouched Touched touched other = touched
WhereTouched (Placed extent) touched other = other
WhereTouched (Stored ref) touched other = other

-- a page is touched
abbrev pub IsTouched : Place → Type 0
IsTouched place = WhereTouched place (Unit {0}) ⊥

-- the blocks that a page was given and was not written to yet
abbrev pub placed_extent : Place → Option Extent
placed_extent Touched = None
placed_extent (Placed extent) = Some extent
placed_extent (Stored ref) = None

-- the reference to a page that is on the disk
abbrev pub stored_ref : Place → Option PageRef
stored_ref Touched = None
stored_ref (Placed extent) = None
stored_ref (Stored ref) = Some ref

-- a page is on the disk
abbrev pub IsStored : {T : Type 0} → Page T → Type 0
IsStored page = IsSome (stored_ref page.place)

-- the number of blocks that a page of these items needs
abbrev pub blocks_needed : {T : Type 0} → ItemFormat T → List T → ℕ
blocks_needed format items = blocks_of (length (page_bytes format items))

-- the reference to a page of these items at the front of an extent
abbrev pub ref_at : {T : Type 0} → ItemFormat T → Extent → List T → PageRef
ref_at format extent items =
    record { extent = extent; length = length (page_bytes format items); sha256 = (digests (page_bytes format items)).sha256 }

-- the place of a page of these items once it was stored
abbrev pub place_stored : {T : Type 0} → ItemFormat T → List T → Place → Place
place_stored format items Touched = Touched
place_stored format items (Placed extent) = Stored (ref_at format extent items)
place_stored format items (Stored ref) = Stored ref

-- the page once it was stored
abbrev pub page_stored : {T : Type 0} → ItemFormat T → Page T → Page T
page_stored format page = record { items = page.items; place = place_stored format page.items page.place }

-- the items of a list of pages, in their order
abbrev pub items_of : {T : Type 0} → List (Page T) → List T
items_of pages = flat_map (λ page. page.items) pages

-- the extents of the pages that were given blocks and are not written yet, in order
abbrev pub placed_extents : {T : Type 0} → List (Page T) → List Extent
placed_extents pages = filter_map (λ page. placed_extent page.place) pages

-- the references to the pages that are on the disk, in order
abbrev pub stored_refs : {T : Type 0} → List (Page T) → List PageRef
stored_refs pages = filter_map (λ page. stored_ref page.place) pages

-- two entries of pages are equal
abbrev pub same_page : PageRef → PageRef → Bool
same_page a b =
    nat_eq a.extent.first b.extent.first && nat_eq a.extent.blocks b.extent.blocks && nat_eq a.length b.length && bytes_eq a.sha256 b.sha256

-- the extents of pages on the disk, in order
abbrev pub extents_of : List PageRef → List Extent
extents_of refs = map (λ ref. ref.extent) refs

-- the pages once those that were given blocks were stored
abbrev pub stored : {T : Type 0} → ItemFormat T → List (Page T) → List (Page T)
stored format pages = map (page_stored format) pages

-- The law of a page: it has 1 to 50,000 items, and if it was given blocks, exactly as many as it needs.
pub record IsSoundPage {T : Type 0} (format : ItemFormat T) (items : List T) (place : Place) : Type 0 where
  pub some : 1 ≤ length items
  pub most : length items ≤ most_items
  pub sized : IfSome (placed_extent place) (λ extent. extent.blocks ≡ blocks_needed format items)
