-- The size of an extent for a body; sets of blocks are rs_extent's.
use Rattle.std.proofs.Common.{ℕ, ◌*◌, ◌≤◌, arith}
use Rattle.rs_extent.specs.declared.Extent.{Extent}
use Rattle.rs_extent.specs.Blocks.{block_size}
use Rattle.rs_body.specs.Blocks.{IsSized}

-- The blocks that n bytes need have room for them.
pub fits_sized : (e : Extent) (n : ℕ) → IsSized e n → n ≤ block_size * e.blocks
fits_sized e n sized = omega (arith, sized.0)
