use Rattle.std.proofs.Common.{◌≡◌, ℕ, List, refl, Option, Some, None}
use Rattle.std.specs.Prelude.{IfNone, IsSome}
use Rattle.rs_extent.specs.declared.Extent.{Extent}
use Rattle.rs_extent.specs.Extents.{AreApart}
use Rattle.rs_commit.specs.declared.root.Root.{Root}
use Rattle.rs_image.specs.declared.contents.Contents.{Contents}
use Rattle.rs_image.specs.Reach.{reach, AreInside}
use Rattle.rs_image.specs.Rooted.{Rooted, IsRooted}
use Rattle.rs_image.proofs.used.used_of.Goals as goal

some_unless : {A : Type 0} (o : Option A) (size : ℕ) (extents : List Extent) → IfNone o (AreApart extents → AreInside size extents → ⊥) → AreApart extents → AreInside size extents → IsSome o
some_unless None size extents none apart inside = absurd (none apart inside)
some_unless (Some x) size extents none apart inside = refl

is_found : {A : Type 0} (o : Option A) (r : Rooted) (size : ℕ) (root : Root) (c : Contents) → size ≡ r.size → root ≡ r.root → c ≡ r.contents → IsRooted r
    → IfNone o (AreApart (reach root c) → AreInside size (reach root c) → ⊥) → IsSome o
is_found o r size root c one two three sound none =
    some_unless o size (reach root c) none (rw (two, three) sound.whole.apart) (rw (one, two, three) sound.whole.inside)

pub unwrap-requires : goal.unwrap-requires
unwrap-requires c =
    is_found c.in_ok-reached.reached c.args.rooted.now c.size.result c.root.result.now c.contents-contents.result.now c.size.ensures.size c.root.ensures c.contents-contents.ensures.contents
    c.size.ensures.sound c.in_ok-reached.ensures.none
