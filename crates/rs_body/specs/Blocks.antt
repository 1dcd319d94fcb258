-- The blocks of a body: their number, and the bytes that they hold.
use Rattle.std.specs.Prelude.{◌≡◌, ℕ, ◌+◌, ◌-◌, ◌*◌, ◌/◌, List, take, drop}
use Rattle.rs_extent.specs.declared.Extent.{Extent}
use Rattle.rs_extent.specs.Blocks.{block_size}

-- the blocks that n bytes need: n / block_size, rounded up
abbrev pub blocks_of : ℕ → ℕ
blocks_of n = (n + block_size - 1) / block_size

-- the extent has exactly the blocks that n bytes need, and begins at block 0 if n is 0
abbrev pub IsSized : Extent → ℕ → Type 0
IsSized e n = (e.blocks ≡ blocks_of n) × (n ≡ 0 → e.first ≡ 0)

-- the first n bytes of the extent, in the bytes of a disk
abbrev pub part : Extent → ℕ → List ℕ → List ℕ
part e n bytes = take n (drop (block_size * e.first) bytes)

-- the offset on the disk of a byte of the extent, counted from its front
abbrev pub place_of : Extent → ℕ → ℕ
place_of e at = block_size * e.first + at
