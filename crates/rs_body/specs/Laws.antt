-- Laws that follow from the definitions of blocks and of runs that write outside them.
use Rattle.std.specs.Prelude.{◌≡◌, ◌↔◌, ◌⊎◌, ℕ, ◌*◌, ◌≤◌, Bool, true, List, [], ◌∷◌}
use Rattle.rs_disk.specs.Medium.{DiskState, IsImage, IsImageAt}
use Rattle.rs_disk.specs.Runs.{GoesNoFurther, RunsReading}
use Rattle.rs_extent.specs.declared.Extent.{Extent}
use Rattle.rs_extent.specs.Blocks.{block_size}
use Rattle.rs_extent.specs.Extents.{within, in_some, IsBeside, IsSubset, AreBeside}
use Rattle.rs_body.specs.Blocks.{part, blocks_of}
use Rattle.rs_body.specs.Outside.{Keeps, WritesOutside, WritesOnly, WritesPart}

-- Extents are disjoint from a set exactly if all of them are.
abbrev pub BesideEach : Type 0
BesideEach = (kept : ℕ → Bool) (e : Extent) (es : List Extent) → AreBeside kept (e ∷ es) ↔ (IsBeside kept e × AreBeside kept es)

-- Blocks have room for n bytes exactly if they are as many as these need, or more.
abbrev pub FewestBlocks : Type 0
FewestBlocks = (n blocks : ℕ) → (n ≤ block_size * blocks) ↔ (blocks_of n ≤ blocks)

-- A run without calls writes outside every set.
abbrev pub NoCallOutside : Type 0
NoCallOutside = (kept : ℕ → Bool) (disk : DiskState) → WritesOutside kept disk disk

-- Two runs in turn that both write outside a set write outside it as one run.
abbrev pub OutsideGoesOn : Type 0
OutsideGoesOn = (kept : ℕ → Bool) (old mid new : DiskState) → WritesOutside kept old mid → WritesOutside kept mid new → WritesOutside kept old new

-- A run that writes outside a set writes outside all its subsets.
abbrev pub OutsideLess : Type 0
OutsideLess = (kept more : ℕ → Bool) → ((b : ℕ) → kept b ≡ true → more b ≡ true) → (old new : DiskState) → WritesOutside more old new → WritesOutside kept old new

-- A run that leaves the disk as it is writes outside every set.
abbrev pub OutsideRests : Type 0 → Type 0
OutsideRests A = (kept : ℕ → Bool) (old new : DiskState) → RunsReading A old new → WritesOutside kept old new

-- If all blocks of an extent are in a set, its first n bytes stay if the set's blocks keep their bytes.
abbrev pub PartKept : Type 0
PartKept = (kept : ℕ → Bool) (e : Extent) (n : ℕ) → n ≤ block_size * e.blocks → ((b : ℕ) → within e b ≡ true → kept b ≡ true)
    → (old new : List ℕ) → Keeps kept old new → part e n new ≡ part e n old

-- If a run writes outside this set, every image of a crash within it has in this part the bytes of an image of the
-- run's entry.
abbrev pub ImagePartKept : Type 0
ImagePartKept = (kept : ℕ → Bool) (e : Extent) (n : ℕ) → n ≤ block_size * e.blocks → ((b : ℕ) → within e b ≡ true → kept b ≡ true)
    → (old new : DiskState) → WritesOutside kept old new → (m : ℕ) (image : List ℕ) → old.calls ≤ m → m ≤ new.calls → IsImageAt new m image
    → (entry : List ℕ) × IsImage old.now entry × (part e n image ≡ part e n entry)

-- Two runs in turn, both of which write only some extents, write as one run only the extents of any list that has all
-- their blocks, if the second makes no call after a failed one of the first. The answer of both reports the device
-- exactly if one of theirs does.
abbrev pub OnlyJoins : Type 0 → Type 0 → Type 0 → Type 0
OnlyJoins A B C = (xs ys zs : List Extent) (old mid new : DiskState) → IsSubset (in_some xs) (in_some zs) → IsSubset (in_some ys) (in_some zs)
    → (A → C) → (B → C) → (C → A ⊎ B) → GoesNoFurther old mid new → WritesOnly xs A old mid → WritesOnly ys B mid new → WritesOnly zs C old new

-- A run that writes a part of an extent writes only that extent.
abbrev pub PartIsOnly : Type 0 → Type 0
PartIsOnly A = (e : Extent) (at n : ℕ) (old new : DiskState) → WritesPart e at n A old new → WritesOnly (e ∷ []) A old new
