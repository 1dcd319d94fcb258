-- Laws that follow from the definitions of extents alone.
use Rattle.std.specs.Prelude.{◌≡◌, ◌↔◌, Bool, true, List, [], ◌∷◌, ◌++◌}
use Rattle.rs_extent.specs.declared.Extent.{Extent}
use Rattle.rs_extent.specs.Blocks.{IsFree, Sets}
use Rattle.rs_extent.specs.Extents.{in_some, AreDisjoint, AreApart, CanTake, AreTaken, AreGiven}

-- Two lists of extents are apart together exactly if both are apart and have no block in common.
abbrev pub ApartInParts : Type 0
ApartInParts = (xs ys : List Extent) → AreApart (xs ++ ys) ↔ (AreApart xs × AreApart ys × AreDisjoint (in_some xs) (in_some ys))

-- A free extent is taken if its blocks become used, and no others change.
abbrev pub FreeIsTaken : Type 0
FreeIsTaken = (old new : List Bool) (e : Extent) → IsFree old e → Sets old new e true → AreTaken old new (e ∷ [])

-- Extents that are taken one after the other are taken, in either order.
abbrev pub TakenInTurn : Type 0
TakenInTurn = (old mid new : List Bool) (xs ys : List Extent) → AreTaken old mid xs → AreTaken mid new ys
    → AreTaken old new (xs ++ ys) × AreTaken old new (ys ++ xs)

-- Extents that can be taken can be taken one after the other.
abbrev pub CanTakeInTurn : Type 0
CanTakeInTurn = (old mid : List Bool) (xs ys : List Extent) → CanTake old (xs ++ ys)
    → CanTake old ys × (AreTaken old mid ys → CanTake mid xs)

-- Taking extents and giving them back leaves the set as it was.
abbrev pub TakenIsGivenBack : Type 0
TakenIsGivenBack = (old mid new : List Bool) (extents : List Extent) → AreTaken old mid extents → AreGiven mid new extents → new ≡ old
