-- Runs that write only some extents: without calls, one after another, and by another answer.
use Rattle.std.proofs.Common.{◌⊎◌, inr, ℕ, List, [], ◌∷◌}
use Rattle.rs_disk.specs.Medium.{DiskState}
use Rattle.rs_disk.specs.Runs.{GoesNoFurther}
use Rattle.rs_body.proofs.FromBelow.{went_well, writing_none, writing_as, writing_on, beside_first}
use Rattle.rs_extent.specs.declared.Extent.{Extent}
use Rattle.rs_extent.specs.Extents.{in_some, IsSubset}
use Rattle.rs_body.specs.Outside.{WritesOnly, WritesPart}
use Rattle.rs_body.proofs.KeptBlocks.{outside_none, outside_on}

pub only_none : {A : Type 0} (xs : List Extent) (disk : DiskState) → ¬ A → WritesOnly xs A disk disk
only_none xs disk none = record { runs = writing_none disk none; outside = λ kept beside. outside_none kept disk }

pub only_as : {A B : Type 0} (xs : List Extent) (old new : DiskState) → (A → B) → (B → A) → WritesOnly xs A old new → WritesOnly xs B old new
only_as xs old new to from run = record { runs = writing_as old new to from run.runs; outside = run.outside }

-- .. and of extents whose blocks are among others
pub only_on : {A B C : Type 0} (xs ys zs : List Extent) (old mid new : DiskState) → IsSubset (in_some xs) (in_some zs) → IsSubset (in_some ys) (in_some zs)
    → (A → C) → (B → C) → (C → A ⊎ B) → GoesNoFurther old mid new → WritesOnly xs A old mid → WritesOnly ys B mid new → WritesOnly zs C old new
only_on xs ys zs old mid new first second left right split no_further one two = record {
  runs = writing_on old mid new left right split no_further one.runs two.runs;
  outside = λ kept beside.
      outside_on kept old mid new (one.outside kept (λ b is. beside b (first b is))) (two.outside kept (λ b is. beside b (second b is)));
}

pub only_then : {A B : Type 0} (xs ys zs : List Extent) (old mid new : DiskState) → IsSubset (in_some xs) (in_some zs) → IsSubset (in_some ys) (in_some zs)
    → ¬ A → WritesOnly xs A old mid → WritesOnly ys B mid new → WritesOnly zs B old new
only_then xs ys zs old mid new first second well one two = only_on xs ys zs old mid new first second (λ told. absurd (well told)) (λ told. told) (λ told. inr told) (went_well old mid new well one.runs.runs) one two

-- a run that writes a part of an extent writes only that extent
pub part_only : {A : Type 0} (e : Extent) (at n : ℕ) (old new : DiskState) → WritesPart e at n A old new → WritesOnly (e ∷ []) A old new
part_only e at n old new run = record { runs = run.within.writes; outside = λ kept beside. run.outside kept (beside_first kept e [] beside) }
