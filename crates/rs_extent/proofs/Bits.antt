-- Single bits of a word: shifts, runs of ones, and the ones at its two ends.
use Rattle.std.proofs.Common.{◌≡◌, ◌⊎◌, inl, inr, ℕ, ◌+◌, ◌-◌, ◌/◌, ◌%◌, ◌^◌, ◌<◌, ◌≤◌, bit_and, bit_or, ◌↔◌, sym, ◌∙◌, ap, arith}
use Rattle.std.specs.Int.{bit_at, bit_not, w64}
use Rattle.std.proofs.lemmas.Nat.{shr-shr}
use Rattle.std.proofs.lemmas.Nat.Bits.{bit_at_and, bit_at_or, bit_at_not, bit_at-lt, bit_at_mask_inside, bit_at_mask_below, bit_at_mask_above, same_from_bits}
use Rattle.std.proofs.lemmas.Bool.{cases_lt}
use Rattle.rs_extent.specs.Words.{IsSetRun}

-- a shift to the right moves every bit down
pub bit_at-shr : (n k i : ℕ) → bit_at (n / 2 ^ k) i ≡ bit_at n (k + i)
bit_at-shr n k i = ap (λ (x : ℕ). x % 2) (shr-shr n k i)

-- a bit of `a & b` is set if both are
pub and_set : (a b i : ℕ) → bit_at a i ≡ 1 → bit_at b i ≡ 1 → bit_at (bit_and a b) i ≡ 1
and_set a b i p q = omega (arith, bit_at_and a b i)

pub and_parts : (a b i : ℕ) → bit_at (bit_and a b) i ≡ 1 → (bit_at a i ≡ 1) × (bit_at b i ≡ 1)
and_parts a b i h = (omega (arith, bit_at_and a b i, bit_at-lt a i, bit_at-lt b i), omega (arith, bit_at_and a b i, bit_at-lt a i, bit_at-lt b i))

-- if the bits of `starts` begin runs of `have` ones, those of `starts & (starts >> step)` begin runs of `have + step`
pub longer_found : (word starts have step : ℕ) → step ≤ have → ((first : ℕ) → bit_at starts first ≡ 1 → IsSetRun (bit_at word) first have)
    → (first : ℕ) → bit_at (bit_and starts (starts / 2 ^ step)) first ≡ 1 → IsSetRun (bit_at word) first (have + step)
longer_found word starts have step le found first h place from until =
    let both = and_parts starts (starts / 2 ^ step) first h in
    let later : bit_at starts (step + first) ≡ 1 = sym (bit_at-shr starts step first) ∙ both.1 in
    elim (cases_lt place (first + have)) [
      | inl lt ↦ found first both.0 place from lt
      | inr le2 ↦ found (step + first) later place (omega arith) (omega arith)
    ]

pub longer_all : (word starts have step : ℕ) → ((first : ℕ) → IsSetRun (bit_at word) first have → bit_at starts first ≡ 1)
    → (first : ℕ) → IsSetRun (bit_at word) first (have + step) → bit_at (bit_and starts (starts / 2 ^ step)) first ≡ 1
longer_all word starts have step all first run =
    and_set starts (starts / 2 ^ step) first (all first (λ place from until. run place from (omega arith)))
    (bit_at-shr starts step first ∙ all (step + first) (λ place from until. run place (omega arith) (omega arith)))

-- a mask `2 ^ high - 2 ^ low` has the bits from `low` up to `high`, and no other
bit_in_mask : (mask low high i : ℕ) → mask ≡ 2 ^ high - 2 ^ low → low ≤ i → i < high → bit_at mask i ≡ 1
bit_in_mask mask low high i is from until = ap (λ (n : ℕ). bit_at n i) is ∙ bit_at_mask_inside low high i from until

bit_off_mask : (mask low high i : ℕ) → mask ≡ 2 ^ high - 2 ^ low → (i < low) ⊎ (high ≤ i) → bit_at mask i ≡ 0
bit_off_mask mask low high i is (inl lt) = ap (λ (n : ℕ). bit_at n i) is ∙ bit_at_mask_below low high i lt
bit_off_mask mask low high i is (inr le) = ap (λ (n : ℕ). bit_at n i) is ∙ bit_at_mask_above low high i le

-- the bits that such a mask sets, and those that it leaves as they were
pub set_inside : (word mask low high i : ℕ) → mask ≡ 2 ^ high - 2 ^ low → low ≤ i → i < high → bit_at (bit_or word mask) i ≡ 1
set_inside word mask low high i is from until =
    let one = bit_in_mask mask low high i is from until in
    omega (arith, bit_at_or word mask i, bit_at-lt word i)

pub set_outside : (word mask low high i : ℕ) → mask ≡ 2 ^ high - 2 ^ low → (i < low) ⊎ (high ≤ i) → bit_at (bit_or word mask) i ≡ bit_at word i
set_outside word mask low high i is out =
    let none = bit_off_mask mask low high i is out in
    omega (arith, bit_at_or word mask i)

-- the same of `word & !mask`
pub cleared_inside : (word mask low high i : ℕ) → mask ≡ 2 ^ high - 2 ^ low → mask < 2 ^ 64 → high ≤ 64 → low ≤ i → i < high → bit_at (bit_and word (bit_not w64 mask)) i ≡ 0
cleared_inside word mask low high i is fits within from until =
    let one = bit_in_mask mask low high i is from until in
    let off = bit_at_not w64 mask i fits (omega arith) in
    omega (arith, bit_at_and word (bit_not w64 mask) i)

pub cleared_outside : (word mask low high i : ℕ) → mask ≡ 2 ^ high - 2 ^ low → mask < 2 ^ 64 → i < 64 → (i < low) ⊎ (high ≤ i) → bit_at (bit_and word (bit_not w64 mask)) i ≡ bit_at word i
cleared_outside word mask low high i is fits small out =
    let none = bit_off_mask mask low high i is out in
    let on = bit_at_not w64 mask i fits small in
    omega (arith, bit_at_and word (bit_not w64 mask) i, bit_at-lt word i)

-- `word & mask` is `mask` if the bits of the mask are set
pub has_mask : (word mask low high : ℕ) → mask ≡ 2 ^ high - 2 ^ low → low ≤ high → (bit_and word mask ≡ mask) ↔ IsSetRun (bit_at word) low (high - low)
has_mask word mask low high is order = (there, back)
  where
    there : bit_and word mask ≡ mask → IsSetRun (bit_at word) low (high - low)
    there same place from until = (and_parts word mask place (ap (λ (n : ℕ). bit_at n place) same ∙ bit_in_mask mask low high place is from (omega arith))).0

    back : IsSetRun (bit_at word) low (high - low) → bit_and word mask ≡ mask
    back run = same_from_bits (bit_and word mask) mask each
      where
        each : (i : ℕ) → bit_at (bit_and word mask) i ≡ bit_at mask i
        each i = elim (cases_lt i low) [
          | inl lt ↦ omega (arith, bit_off_mask mask low high i is (inl lt), bit_at_and word mask i)
          | inr le ↦ elim (cases_lt i high) [
            | inl lt ↦ omega (arith, run i le (omega arith), bit_in_mask mask low high i is le lt, bit_at_and word mask i)
            | inr above ↦ omega (arith, bit_off_mask mask low high i is (inr above), bit_at_and word mask i)
          ]
        ]
