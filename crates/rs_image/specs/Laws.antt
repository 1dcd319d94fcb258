-- The laws that follow from the definition of the state that an image holds.
use Rattle.std.specs.Prelude.{◌≡◌, ℕ, Bool, true, List}
use Rattle.rs_extent.specs.Extents.{in_some}
use Rattle.rs_body.specs.Outside.{Keeps}
use Rattle.rs_commit.specs.declared.root.Root.{Root}
use Rattle.rs_commit.specs.Commit.{SameBehind}
use Rattle.rs_model.specs.State.{Source}
use Rattle.rs_image.specs.declared.contents.Contents.{Contents}
use Rattle.rs_image.specs.Reach.{reach}
use Rattle.rs_image.specs.StateOfImage.{Tells, StandsFor}

-- An image represents at most one state.
abbrev pub StandsOnce : Type 0
StandsOnce = (image : List ℕ) (s t : Source) → StandsFor image s → StandsFor image t → s ≡ t

-- A root describes at most one set of lists in an image.
abbrev pub TellsOnce : Type 0
TellsOnce = (root : Root) (c d : Contents) (image : List ℕ) (s t : Source) → Tells root c image s → Tells root d image t → c ≡ d

-- The lists that a root describes depend only on the blocks that it reaches: they stay the same while these blocks do.
abbrev pub TellsStays : Type 0
TellsStays = (kept : ℕ → Bool) (root : Root) (c : Contents) (old new : List ℕ) (s : Source)
    → ((b : ℕ) → in_some (reach root c) b ≡ true → kept b ≡ true) → Keeps kept old new → Tells root c old s → Tells root c new s

-- So they stay the same while all blocks after the slots stay the same.
abbrev pub TellsBehind : Type 0
TellsBehind = (root : Root) (c : Contents) (one two : List ℕ) (s : Source) → SameBehind one two → Tells root c one s → Tells root c two s
