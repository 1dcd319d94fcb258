-- Pages that are on the disk.
use Rattle.std.proofs.Common.{◌≡◌, List, [], ◌∷◌, refl}
use Rattle.std.specs.Prelude.{All, IsSome}
use Rattle.std.specs.List.{cons_option}
use Rattle.std.proofs.lemmas.List.Elements.{All-head, All-tail}
use Rattle.rs_extent.specs.declared.Extent.{Extent}
use Rattle.rs_page.specs.declared.place.Place.{Place}
use Rattle.rs_page.specs.declared.place.Place.TheVariants.{Touched, Placed, Stored}
use Rattle.rs_page.specs.Pages.{Page, IsStored, placed_extent, placed_extents, stored_ref}

none_one : (place : Place) (rest : List Extent) → IsSome (stored_ref place) → rest ≡ [] → cons_option (placed_extent place) rest ≡ []
none_one Touched rest h none = none
none_one (Placed e) rest h none = cc
none_one (Stored ref) rest h none = none

-- none of them waits to be written
pub none_placed : {T : Type 0} (pages : List (Page T)) → All IsStored pages → placed_extents pages ≡ []
none_placed [] h = refl
none_placed (page ∷ pages) h = none_one page.place (placed_extents pages) (All-head IsStored page pages h) (none_placed pages (All-tail IsStored page pages h))
