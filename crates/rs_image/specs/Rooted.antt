-- A root of a disk, with its lists.
use Rattle.std.specs.Prelude.{◌≡◌, ◌<◌, ◌≤◌, ℕ, Bool, List, length}
use Rattle.rs_extent.specs.Blocks.{is_used}
use Rattle.rs_commit.specs.declared.root.Root.{Root}
use Rattle.rs_image.specs.declared.contents.Contents.{Contents}
use Rattle.rs_image.specs.Reach.{blocks_of_disk, is_kept}
use Rattle.rs_image.specs.StateOfImage.{AreListable}
use Rattle.rs_image.specs.Whole.{IsWhole}

-- a root of a disk of this many bytes, and its lists
pub record Rooted : Type 0 where
  pub size : ℕ
  pub root : Root
  pub contents : Contents

abbrev pub rooted : ℕ → Root → Contents → Rooted
rooted size root c = record { size = size; root = root; contents = c }

-- The disk has blocks 0 and 1, the root with its lists keeps all rules, and the lists can be those of a directory.
pub record IsRooted (r : Rooted) : Type 0 where
  pub room : 1024 ≤ r.size
  pub whole : IsWhole r.size r.root r.contents
  pub listable : AreListable r.root.version r.contents

-- the blocks of the disk that the root reaches, and no others, are used
pub record AreUsed (r : Rooted) (used : List Bool) : Type 0 where
  pub blocks : length used ≡ blocks_of_disk r.size
  pub each : (b : ℕ) → b < blocks_of_disk r.size → is_used used b ≡ is_kept r.root r.contents b

-- The parts of a root in memory are sound: the root with its lists keeps all rules, and exactly the blocks of the disk
-- that it reaches are used.
pub record MemoryIsSound (r : Rooted) (set : List Bool) : Type 0 where
  pub rooted : IsRooted r
  pub used : AreUsed r set
