-- Pages that get blocks.
use Rattle.std.proofs.Common.{◌≡◌, inl, inr, ℕ, ◌≤◌, Bool, cond, List, [], ◌∷◌, ◌++◌, length, Option, Some, None, refl, sym, ◌∙◌, ap, ap₂, subst, arith}
use Rattle.std.specs.Prelude.{All, IfSome, IsSome, is_some}
use Rattle.std.specs.List.{cons_option}
use Rattle.std.proofs.lemmas.List.Elements.{All-nil, All-cons, All-head, All-tail}
use Rattle.rs_extent.specs.declared.Extent.{Extent}
use Rattle.rs_body.specs.Blocks.{blocks_of}
use Rattle.rs_page.specs.declared.place.Place.{Place}
use Rattle.rs_page.specs.declared.place.Place.TheVariants.{Touched, Placed, Stored}
use Rattle.rs_page.specs.Format.{ItemFormat, page_bytes}
use Rattle.rs_page.specs.Pages.{Page, IsStored, placed_extent, stored_ref, blocks_needed, items_of, placed_extents}
use Rattle.rs_page.specs.Placing.{PlacesOne, Places, HasNoPlace, PageHasNoRun as HasNoPageRun}
use Rattle.rs_page.specs.SharedPages.{stored_pages}
use Rattle.rs_plan.specs.Room.{HasNoRoom, pages_needed}
use Rattle.rs_image.specs.declared.contents.Contents.{Contents}
use Rattle.rs_plan.specs.Placed.{AreUnplaced}

-- a page of these items, at this place
abbrev pub at : {T : Type 0} → List T → Place → Page T
at items place = record { items = items; place = place }

-- the items stay
pub places_items : {T : Type 0} (format : ItemFormat T) (used used' : List Bool) (xs ys : List (Page T)) → Places format used xs used' ys → items_of ys ≡ items_of xs
places_items format used used' [] [] h = refl
places_items format used used' [] (y ∷ ys) h = absurd h
places_items format used used' (x ∷ xs) [] h = absurd h
places_items format used used' (x ∷ xs) (y ∷ ys) h = ap₂ ◌++◌ h.1.0 (places_items format h.0 used' xs ys h.2)

pub places_length : {T : Type 0} (format : ItemFormat T) (used used' : List Bool) (xs ys : List (Page T)) → Places format used xs used' ys → length ys ≡ length xs
places_length format used used' [] [] h = refl
places_length format used used' [] (y ∷ ys) h = absurd h
places_length format used used' (x ∷ xs) [] h = absurd h
places_length format used used' (x ∷ xs) (y ∷ ys) h = omega (arith, places_length format h.0 used' xs ys h.2)

rest_none : {A : Type 0} (o : Option A) (rest : List A) → cons_option o rest ≡ [] → rest ≡ []
rest_none None rest h = h
rest_none (Some a) rest h = cc

-- so do the pages that are stored
stored_one : {T : Type 0} (format : ItemFormat T) (used used' : List Bool) (items : List T) (place : Place) (y : Page T) (xs ys : List (Page T))
    → PlacesOne format used (at items place) used' y → stored_pages ys ≡ stored_pages xs → stored_pages (y ∷ ys) ≡ stored_pages (at items place ∷ xs)
stored_one format used used' items Touched y xs ys h rest =
    ap (λ (p : Place). cond (is_some (stored_ref p)) (y ∷ stored_pages ys) (stored_pages ys)) h.1.placed ∙ rest
stored_one format used used' items (Placed e) y xs ys h rest =
    ap (λ (p : Place). cond (is_some (stored_ref p)) (y ∷ stored_pages ys) (stored_pages ys)) h.1.1 ∙ rest
stored_one {T} format used used' items (Stored ref) y xs ys h rest =
    let same : y ≡ at items (Stored ref) = ap₂ (λ (i : List T) (p : Place). at i p) h.0 h.1.1 in
    ap (λ (p : Place). cond (is_some (stored_ref p)) (y ∷ stored_pages ys) (stored_pages ys)) h.1.1 ∙ ap₂ (λ (s : Page T) (l : List (Page T)). s ∷ l) same rest

pub places_stored : {T : Type 0} (format : ItemFormat T) (used used' : List Bool) (xs ys : List (Page T)) → Places format used xs used' ys → stored_pages ys ≡ stored_pages xs
places_stored format used used' [] [] h = refl
places_stored format used used' [] (y ∷ ys) h = absurd h
places_stored format used used' (x ∷ xs) [] h = absurd h
places_stored format used used' (x ∷ xs) (y ∷ ys) h = stored_one format used h.0 x.items x.place y xs ys h.1 (places_stored format h.0 used' xs ys h.2)

-- the blocks that a page was given are as many as it needs
abbrev pub IsFitted : {T : Type 0} → ItemFormat T → Page T → Type 0
IsFitted format page = IfSome (placed_extent page.place) (λ extent. extent.blocks ≡ blocks_needed format page.items)

fitted_one : {T : Type 0} (format : ItemFormat T) (used used' : List Bool) (items : List T) (place : Place) (y : Page T) (rest : List Extent)
    → PlacesOne format used (at items place) used' y → cons_option (placed_extent place) rest ≡ [] → IsFitted format y
fitted_one {T} format used used' items Touched y rest h none =
    subst (λ (p : Place). IfSome (placed_extent p) (λ extent. extent.blocks ≡ blocks_needed format y.items)) (sym h.1.placed)
    (h.1.lowest.blocks ∙ ap (λ (i : List T). blocks_needed format i) (sym h.0))
fitted_one format used used' items (Placed e) y rest h none = cc
fitted_one format used used' items (Stored ref) y rest h none =
    subst (λ (p : Place). IfSome (placed_extent p) (λ extent. extent.blocks ≡ blocks_needed format y.items)) (sym h.1.1) tt

pub places_fitted : {T : Type 0} (format : ItemFormat T) (used used' : List Bool) (xs ys : List (Page T)) → Places format used xs used' ys → placed_extents xs ≡ [] → All (IsFitted format) ys
places_fitted format used used' [] [] h none = All-nil (IsFitted format)
places_fitted format used used' [] (y ∷ ys) h none = absurd h
places_fitted format used used' (x ∷ xs) [] h none = absurd h
places_fitted format used used' (x ∷ xs) (y ∷ ys) h none =
    All-cons (IsFitted format) y ys (fitted_one format used h.0 x.items x.place y (placed_extents xs) h.1 none)
    (places_fitted format h.0 used' xs ys h.2 (rest_none (placed_extent x.place) (placed_extents xs) none))

-- a page has bytes, and so it needs blocks
some_needed : (n : ℕ) → 1 ≤ n → 1 ≤ blocks_of n
some_needed n some = omega arith

pub needed : {T : Type 0} (format : ItemFormat T) (items : List T) → 1 ≤ blocks_needed format items
needed format items = some_needed (length (page_bytes format items)) (omega arith)

-- Where later lengths have no room after the pages of a list took blocks, all these lengths together have no room.
room_one : {T : Type 0} (format : ItemFormat T) (used used' : List Bool) (items : List T) (place : Place) (y : Page T) (xs : List (Page T)) (rest : List ℕ)
    → PlacesOne format used (at items place) used' y → cons_option (placed_extent place) (placed_extents xs) ≡ []
    → HasNoRoom used' (pages_needed format xs ++ rest) → HasNoRoom used (pages_needed format (at items place ∷ xs) ++ rest)
room_one format used used' items Touched y xs rest h none later =
    inr (used', h.1.extent, record { blocks = h.1.lowest.blocks; nowhere = λ zero. absurd (omega (arith, zero, needed format items)); lowest = λ some. h.1.lowest; sets = h.1.takes }, later)
room_one format used used' items (Placed e) y xs rest h none later = cc
room_one format used used' items (Stored ref) y xs rest h none later = subst (λ (u : List Bool). HasNoRoom u (pages_needed format xs ++ rest)) h.1.0 later

pub room_after : {T : Type 0} (format : ItemFormat T) (used used' : List Bool) (xs ys : List (Page T)) (rest : List ℕ) → Places format used xs used' ys → placed_extents xs ≡ []
    → HasNoRoom used' rest → HasNoRoom used (pages_needed format xs ++ rest)
room_after format used used' [] [] rest h none later = subst (λ (u : List Bool). HasNoRoom u rest) h later
room_after format used used' [] (y ∷ ys) rest h none later = absurd h
room_after format used used' (x ∷ xs) [] rest h none later = absurd h
room_after format used used' (x ∷ xs) (y ∷ ys) rest h none later =
    room_one format used h.0 x.items x.place y xs rest h.1 none
    (room_after format h.0 used' xs ys rest h.2 (rest_none (placed_extent x.place) (placed_extents xs) none) later)

-- Where a page has no place, the pages have no room.
run_none : {T : Type 0} (format : ItemFormat T) (used : List Bool) (items : List T) (place : Place) (xs : List (Page T)) (rest : List ℕ)
    → HasNoPageRun format used (at items place) → HasNoRoom used (pages_needed format (at items place ∷ xs) ++ rest)
run_none format used items Touched xs rest h = inl (needed format items, h)
run_none format used items (Placed e) xs rest h = absurd h
run_none format used items (Stored ref) xs rest h = absurd h

pub room_none : {T : Type 0} (format : ItemFormat T) (used : List Bool) (xs : List (Page T)) (rest : List ℕ) → HasNoPlace format used xs → placed_extents xs ≡ []
    → HasNoRoom used (pages_needed format xs ++ rest)
room_none format used [] rest h none = absurd h
room_none format used (x ∷ xs) rest h none = elim h [
  | inl here ↦ run_none format used x.items x.place xs rest here
  | inr later ↦ room_one format used later.0 x.items x.place later.1 xs rest later.2 none
      (room_none format later.0 xs rest later.3 (rest_none (placed_extent x.place) (placed_extents xs) none))
]

-- Pages that are stored stay as they are.
same_one : {T : Type 0} (format : ItemFormat T) (used used' : List Bool) (items : List T) (place : Place) (y : Page T) → IsSome (stored_ref place)
    → PlacesOne format used (at items place) used' y → y ≡ at items place
same_one format used used' items Touched y some h = cc
same_one format used used' items (Placed e) y some h = cc
same_one {T} format used used' items (Stored ref) y some h = ap₂ (λ (i : List T) (p : Place). at i p) h.0 h.1.1

pub places_same : {T : Type 0} (format : ItemFormat T) (used used' : List Bool) (xs ys : List (Page T)) → All IsStored xs → Places format used xs used' ys → ys ≡ xs
places_same format used used' [] [] some h = refl
places_same format used used' [] (y ∷ ys) some h = absurd h
places_same format used used' (x ∷ xs) [] some h = absurd h
places_same {T} format used used' (x ∷ xs) (y ∷ ys) some h =
    ap₂ (λ (s : Page T) (l : List (Page T)). s ∷ l) (same_one format used h.0 x.items x.place y (All-head IsStored x xs some) h.1)
    (places_same format h.0 used' xs ys (All-tail IsStored x xs some) h.2)

-- no stored page was given blocks
none_one : (place : Place) (rest : List Extent) → IsSome (stored_ref place) → rest ≡ [] → cons_option (placed_extent place) rest ≡ []
none_one Touched rest h none = none
none_one (Placed e) rest h none = cc
none_one (Stored ref) rest h none = none

none_placed : {T : Type 0} (pages : List (Page T)) → All IsStored pages → placed_extents pages ≡ []
none_placed [] h = refl
none_placed (page ∷ pages) h = none_one page.place (placed_extents pages) (All-head IsStored page pages h) (none_placed pages (All-tail IsStored page pages h))

pub all_unplaced : (c : Contents) → All IsStored c.catalogue → All IsStored c.history.pages → AreUnplaced c
all_unplaced c catalogue history = record { catalogue = none_placed c.catalogue catalogue; history = none_placed c.history.pages history }
