-- The number of ones at the two ends of a word of 64 bits.
use Rattle.std.proofs.Common.{◌≡◌, inl, inr, ℕ, suc, ◌+◌, ◌-◌, ◌/◌, ◌^◌, ◌<◌, ◌≤◌, pow-suc, ◌∙◌, ap, arith}
use Rattle.std.specs.Int.{bit_at, trailing_ones, leading_ones, w64}
use Rattle.std.specs.Int.Count.{count_trailing_zeros, leading_top, leading_le, trailing_of_zero, trailing_le}
use Rattle.std.proofs.lemmas.Nat.{le-div, div_below, pow_pos}
use Rattle.std.proofs.lemmas.Nat.Bits.{bit_at_ones, bit_at_not, bit_at_above, bit_at-lt, bit_at-trailing_ones}
use Rattle.std.proofs.lemmas.Bool.{cases_lt}

-- a word of ones
pub trailing_ones-all : (word : ℕ) → word + 1 ≡ 2 ^ 64 → trailing_ones w64 word ≡ 64
trailing_ones-all word full = let none : 2 ^ 64 - 1 - word ≡ 0 = omega arith in ap (λ (n : ℕ). count_trailing_zeros 64 n) none ∙ trailing_of_zero 64

pub trailing_ones-le : (word : ℕ) → trailing_ones w64 word ≤ 64
trailing_ones-le word = trailing_le 64 (2 ^ 64 - 1 - word)

-- all of them are set
pub trailing_set : (word i : ℕ) → word < 2 ^ 64 → i < trailing_ones w64 word → bit_at word i ≡ 1
trailing_set word i fits lt = elim (cases_lt (word + 1) (2 ^ 64)) [
  | inl below ↦ (bit_at-trailing_ones w64 word below).2 i lt
  | inr full ↦
      let is : word ≡ 2 ^ 64 - 1 = omega arith in
      ap (λ (n : ℕ). bit_at n i) is ∙ bit_at_ones 64 i (omega (arith, trailing_ones-le word))
]

-- the bit after them isn't
pub trailing_end : (word : ℕ) → word + 1 < 2 ^ 64 → (trailing_ones w64 word < 64) × (bit_at word (trailing_ones w64 word) ≡ 0)
trailing_end word below = let ends = bit_at-trailing_ones w64 word below in (ends.0, ends.1)

-- the highest bit of a number
top_set : (n j : ℕ) → 2 ^ j ≤ n → n < 2 ^ suc j → bit_at n j ≡ 1
top_set n j low high =
    let one : 1 ≤ n / 2 ^ j = le-div 1 n (2 ^ j) (pow_pos j) (omega arith) in
    let two : n / 2 ^ j < 2 = div_below n (2 ^ j) 2 (pow_pos j) (omega (arith, pow-suc 2 j)) in
    omega arith

pub leading_ones-le : (word : ℕ) → leading_ones w64 word ≤ 64
leading_ones-le word = leading_le 64 (2 ^ 64 - 1 - word)

-- all of those at the upper end are set
pub leading_set : (word i : ℕ) → word < 2 ^ 64 → i < 64 → 64 ≤ i + leading_ones w64 word → bit_at word i ≡ 1
leading_set word i fits small le = elim (cases_lt (word + 1) (2 ^ 64)) [
  | inl below ↦
      let top = leading_top 64 (2 ^ 64 - 1 - word) (omega arith) (omega arith) in
      let off = bit_at_above (2 ^ 64 - 1 - word) (suc top.0) i top.3 (omega arith) in
      omega (arith, bit_at_not w64 word i fits small, off, bit_at-lt word i)
  | inr full ↦ let is : word ≡ 2 ^ 64 - 1 = omega arith in ap (λ (n : ℕ). bit_at n i) is ∙ bit_at_ones 64 i small
]

-- the bit below them isn't
pub leading_end : (word : ℕ) → word + 1 < 2 ^ 64 → (leading_ones w64 word < 64) × (bit_at word (63 - leading_ones w64 word) ≡ 0)
leading_end word below =
    let top = leading_top 64 (2 ^ 64 - 1 - word) (omega arith) (omega arith) in
    let place : 63 - leading_ones w64 word ≡ top.0 = omega arith in
    let set = top_set (2 ^ 64 - 1 - word) top.0 top.2 top.3 in
    let off : bit_at word top.0 ≡ 0 = omega (arith, bit_at_not w64 word top.0 (omega arith) (omega arith), set, bit_at-lt word top.0) in
    (omega arith, ap (bit_at word) place ∙ off)
