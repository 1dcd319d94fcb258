-- How pages are given blocks: one by one in their order, every touched page gets the lowest run of its size.
use Rattle.std.specs.Prelude.{◌≡◌, ◌⊎◌, ℕ, Bool, true, false, List, [], ◌∷◌}
use Rattle.rs_extent.specs.declared.Extent.{Extent}
use Rattle.rs_extent.specs.Blocks.{IsFreeRun, IsLowest, Sets}
use Rattle.rs_page.specs.declared.place.Place.{Place}
use Rattle.rs_page.specs.declared.place.Place.TheVariants.{Touched, Placed, Stored}
use Rattle.rs_page.specs.Format.{ItemFormat}
use Rattle.rs_page.specs.Pages.{Page, WhereTouched, blocks_needed}

-- A page of these items takes the lowest run of its size, and is placed there.
pub record TakesLowest {T : Type 0} (format : ItemFormat T) (items : List T) (used used' : List Bool) (place' : Place) : Type 0 where
  pub extent : Extent
  pub lowest : IsLowest used (blocks_needed format items) extent
  pub takes : Sets used used' extent true
  pub placed : place' ≡ Placed extent

-- a touched page is placed; any other page stays, and takes no block
abbrev pub PlacesOne : {T : Type 0} → ItemFormat T → List Bool → Page T → List Bool → Page T → Type 0
PlacesOne format used page used' page' =
    (page'.items ≡ page.items)
    × WhereTouched page.place (TakesLowest format page.items used used' page'.place) ((used' ≡ used) × (page'.place ≡ page.place))

-- a page is touched, and no run of free blocks is long enough for it
abbrev pub PageHasNoRun : {T : Type 0} → ItemFormat T → List Bool → Page T → Type 0
PageHasNoRun format used page =
    WhereTouched page.place ((first : ℕ) → IsFreeRun used first (blocks_needed format page.items) → ⊥) ⊥

-- the pages are placed, one after the other
abbrev pub Places : {T : Type 0} → ItemFormat T → List Bool → List (Page T) → List Bool → List (Page T) → Type 0
Places format used [] used' [] = used' ≡ used
Places format used [] used' (page' ∷ pages') = ⊥
Places format used (page ∷ pages) used' [] = ⊥
Places format used (page ∷ pages) used' (page' ∷ pages') =
    (between : List Bool) × PlacesOne format used page between page' × Places format between pages used' pages'

-- the first pages can be placed, and the next one has no run
abbrev pub HasNoPlace : {T : Type 0} → ItemFormat T → List Bool → List (Page T) → Type 0
HasNoPlace format used [] = ⊥
HasNoPlace {T} format used (page ∷ pages) =
    PageHasNoRun format used page
    ⊎ ((between : List Bool) × (page' : Page T) × PlacesOne format used page between page' × HasNoPlace format between pages)

-- the place of a page once its blocks were given back
abbrev pub place_taken_back : Place → Place
place_taken_back Touched = Touched
place_taken_back (Placed extent) = Touched
place_taken_back (Stored ref) = Stored ref

-- the blocks that a page was given are free again, and no others change
abbrev pub GivesBack : Place → List Bool → List Bool → Type 0
GivesBack Touched used used' = used' ≡ used
GivesBack (Placed extent) used used' = Sets used used' extent false
GivesBack (Stored ref) used used' = used' ≡ used
