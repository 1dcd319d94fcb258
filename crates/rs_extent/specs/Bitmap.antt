-- The free blocks of a disk as bits.
use Rattle.std.specs.Prelude.{◌≡◌, ℕ, zero, suc, ◌*◌, ◌^◌, ◌<◌, ◌≤◌, Bool, nat_eq, List, [], ◌∷◌, length}
use Rattle.rs_extent.specs.Words.{bit_of}

-- the values of a function at 0, 1 and so on
abbrev pub table : ℕ → (ℕ → Bool) → List Bool
table zero f = []
table (suc n) f = f 0 ∷ table n (λ i. f (suc i))

-- a block is used if its bit isn't set
abbrev pub used_blocks : ℕ → List ℕ → List Bool
used_blocks blocks words = table blocks (λ b. nat_eq (bit_of words b) 0)

-- words with a bit per block; no bit is set past the last block or in the first `full` words
pub record IsBitmap (blocks : ℕ) (words : List ℕ) (full : ℕ) : Type 0 where
  pub covers : blocks ≤ 64 * length words
  pub short : length words ≤ 2 ^ 26
  pub ends : (b : ℕ) → blocks ≤ b → bit_of words b ≡ 0
  pub is_full : (b : ℕ) → b < 64 * full → bit_of words b ≡ 0
