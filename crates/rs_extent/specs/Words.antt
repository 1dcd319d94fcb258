-- A row of bits in words of 64 bits, from the lowest bit of the first word on.
use Rattle.std.specs.Prelude.{◌≡◌, ℕ, ◌+◌, ◌/◌, ◌%◌, ◌<◌, ◌≤◌, List, get_or}
use Rattle.std.specs.Int.{bit_at}

-- the bit at a place, 0 past the last word
unfoldable pub bit_of : List ℕ → ℕ → ℕ
bit_of words place = bit_at (get_or words (place / 64) 0) (place % 64)

-- n bits in a row are set
abbrev pub IsSetRun : (ℕ → ℕ) → ℕ → ℕ → Type 0
IsSetRun bits first n = (place : ℕ) → first ≤ place → place < first + n → bits place ≡ 1

-- no n bits in a row are set
abbrev pub HasNoSetRun : (ℕ → ℕ) → ℕ → Type 0
HasNoSetRun bits n = (first : ℕ) → IsSetRun bits first n → ⊥

-- this is the lowest place from which n bits in a row are set
pub record IsLowestRun (bits : ℕ → ℕ) (n first : ℕ) : Type 0 where
  pub is_run : IsSetRun bits first n
  pub lowest : (lower : ℕ) → lower < first → IsSetRun bits lower n → ⊥

-- the bits from `first` up to `end` get a value, and the others stay as they were
pub record SetsBits (old new : List ℕ) (first end value : ℕ) : Type 0 where
  pub within : (place : ℕ) → first ≤ place → place < end → bit_of new place ≡ value
  pub before : (place : ℕ) → place < first → bit_of new place ≡ bit_of old place
  pub after : (place : ℕ) → end ≤ place → bit_of new place ≡ bit_of old place
