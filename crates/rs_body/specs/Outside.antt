-- Runs of device calls that write outside a set of blocks, and the bytes that they keep in it; runs that write only
-- some extents.
use Rattle.std.specs.Prelude.{◌≡◌, ℕ, ◌+◌, ◌*◌, ◌<◌, Bool, true, false, List, length, get_or}
use Rattle.rs_disk.specs.Medium.{Medium, DiskState, IsImage}
use Rattle.rs_disk.specs.Leaves.{Leaves}
use Rattle.rs_disk.specs.Runs.{RunsWriting, WritesWithin, CallsAtMost}
use Rattle.rs_extent.specs.declared.Extent.{Extent}
use Rattle.rs_extent.specs.Blocks.{block_size}
use Rattle.rs_extent.specs.Extents.{IsBeside, AreBeside}
use Rattle.rs_body.specs.Blocks.{place_of}

-- The blocks of the set keep their bytes.
pub record Keeps (kept : ℕ → Bool) (old new : List ℕ) : Type 0 where
  pub size : length new ≡ length old
  pub same : (b i : ℕ) → kept b ≡ true → i < block_size → get_or new (block_size * b + i) 0 ≡ get_or old (block_size * b + i) 0

-- The places in the blocks of the set are unsettled exactly if they were.
pub record KeepsMarks (kept : ℕ → Bool) (old new : List Bool) : Type 0 where
  pub same : (b i : ℕ) → kept b ≡ true → i < block_size → get_or new (block_size * b + i) false ≡ get_or old (block_size * b + i) false

-- an image of this medium, with any bytes outside the set
abbrev pub KeptFrom : (ℕ → Bool) → Medium → List ℕ → Type 0
KeptFrom kept held image = (entry : List ℕ) × IsImage held entry × Keeps kept entry image

-- A run of calls writes outside a set of blocks: a read of them gives the same bytes, the same places of them are
-- unsettled, and at every m from its entry to its exit every image of a crash after m calls holds in them the bytes of
-- an image of the entry.
pub record WritesOutside (kept : ℕ → Bool) (old new : DiskState) : Type 0 where
  pub seen : Keeps kept old.now.seen new.now.seen
  pub marks : KeepsMarks kept old.now.unsettled new.now.unsettled
  pub leaves : Leaves old new (λ _. KeptFrom kept old.now)

-- A run that writes only these extents, with any answer: every set of blocks disjoint from them stays.
pub record WritesOnly (extents : List Extent) (told : Type 0) (old new : DiskState) : Type 0 where
  pub runs : RunsWriting told old new
  pub outside : (kept : ℕ → Bool) → AreBeside kept extents → WritesOutside kept old new

-- A run that writes n bytes of an extent, from a place in it on, by one call, or by no call if n is 0. With any answer
-- it writes no other byte within the extent, and no block outside it.
pub record WritesPart (e : Extent) (at n : ℕ) (told : Type 0) (old new : DiskState) : Type 0 where
  pub within : WritesWithin (place_of e at) n told old new
  pub outside : (kept : ℕ → Bool) → IsBeside kept e → WritesOutside kept old new
  pub one_call : CallsAtMost 1 old new
  pub no_call : n ≡ 0 → new ≡ old
