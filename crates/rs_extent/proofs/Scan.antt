-- A search for runs of ones, word by word: the invariant before a word, and the step over the word.
use Rattle.std.proofs.Common.{◌≡◌, inl, inr, ℕ, ◌+◌, ◌*◌, ◌-◌, ◌^◌, ◌<◌, ◌≤◌, List, get_or, sym, ◌∙◌, ap, subst, arith}
use Rattle.std.specs.Int.{bit_at, trailing_ones, leading_ones, w64}
use Rattle.std.proofs.lemmas.Nat.Bits.{bit_at_above}
use Rattle.std.proofs.lemmas.Bool.{cases_lt}
use Rattle.rs_extent.specs.Words.{bit_of, IsSetRun, HasNoSetRun, IsLowestRun}
use Rattle.rs_extent.proofs.Ends.{trailing_ones-le, trailing_set, trailing_end, leading_set, leading_end, leading_ones-le}
use Rattle.rs_extent.proofs.Places.{bit_of-at}

-- no run of n ones lies below place `base`, but for one that begins in the `run` ones right before it
pub record IsScanned (bits : ℕ → ℕ) (n base run : ℕ) : Type 0 where
  pub short : run < n
  pub back : run ≤ base
  pub is_set : (place : ℕ) → place < base → base ≤ place + run → bits place ≡ 1
  pub none : (lower : ℕ) → lower + run < base → IsSetRun bits lower n → ⊥

-- the bits from `base` on are those of a word
pub record IsWord (bits : ℕ → ℕ) (base word : ℕ) : Type 0 where
  pub fits : word < 2 ^ 64
  pub at : (bit : ℕ) → bit < 64 → bits (base + bit) ≡ bit_at word bit

at_place : (bits : ℕ → ℕ) (base word place : ℕ) → IsWord bits base word → base ≤ place → place < base + 64 → bits place ≡ bit_at word (place - base)
at_place bits base word place is from until =
    let whole : base + (place - base) ≡ place = omega arith in
    ap bits (sym whole) ∙ is.at (place - base) (omega arith)

-- a word of a row of words
pub word_of : (words : List ℕ) (i : ℕ) → get_or words i 0 < 2 ^ 64 → IsWord (bit_of words) (64 * i) (get_or words i 0)
word_of words i fits = record { fits = fits; at = bit_of-at words i }

-- the ones at its lower end, and the bit after them
pub head_set : (bits : ℕ → ℕ) (base word place : ℕ) → IsWord bits base word → base ≤ place → place < base + trailing_ones w64 word → bits place ≡ 1
head_set bits base word place w from until =
    let few = trailing_ones-le word in
    at_place bits base word place w from (omega arith) ∙ trailing_set word (place - base) w.fits (omega arith)

pub head_end : (bits : ℕ → ℕ) (base word : ℕ) → IsWord bits base word → word + 1 < 2 ^ 64 → bits (base + trailing_ones w64 word) ≡ 0
head_end bits base word w partial = let ends = trailing_end word partial in w.at (trailing_ones w64 word) ends.0 ∙ ends.1

-- the run before the word goes on in it far enough
pub scan_seam : (bits : ℕ → ℕ) (n base run head : ℕ) → IsScanned bits n base run → n ≤ run + head
    → ((place : ℕ) → base ≤ place → place < base + head → bits place ≡ 1) → IsLowestRun bits n (base - run)
scan_seam bits n base run head s long ones = record {
  is_run = λ place from until. elim (cases_lt place base) [
    | inl lt ↦ s.is_set place lt (omega (arith, s.back))
    | inr le ↦ ones place le (omega (arith, s.back))
  ];
  lowest = λ lower lt. s.none lower (omega (arith, s.back));
}

-- it goes on through the whole word
pub scan_ones : (bits : ℕ → ℕ) (n base run : ℕ) → IsScanned bits n base run → run + 64 < n
    → ((place : ℕ) → base ≤ place → place < base + 64 → bits place ≡ 1) → IsScanned bits n (base + 64) (run + 64)
scan_ones bits n base run s short ones = record {
  short = short;
  back = omega (arith, s.back);
  is_set = λ place lt le. elim (cases_lt place base) [
    | inl before ↦ s.is_set place before (omega arith)
    | inr from ↦ ones place from lt
  ];
  none = λ lower lt. s.none lower (omega arith);
}

-- it ends in the word, so no run of n ones begins before the word
no_run_across : (bits : ℕ → ℕ) (n base run head : ℕ) → IsScanned bits n base run → run + head < n → bits (base + head) ≡ 0 → (lower : ℕ) → lower < base → IsSetRun bits lower n → ⊥
no_run_across bits n base run head s short off lower lt is_run = elim (cases_lt (lower + run) base) [
  | inl below ↦ s.none lower below is_run
  | inr le ↦ let set = is_run (base + head) (omega arith) (omega arith) in absurd (omega arith)
]

pub run_fits : (word n bit : ℕ) → word < 2 ^ 64 → 1 ≤ n → IsSetRun (bit_at word) bit n → bit + n ≤ 64
run_fits word n bit fits some run = elim (cases_lt 64 (bit + n)) [
  | inl past ↦
      let set = run (bit + n - 1) (omega arith) (omega arith) in
      let off = bit_at_above word 64 (bit + n - 1) fits (omega arith) in
      absurd (omega arith)
  | inr le ↦ le
]

-- a run within the word
pub scan_within : (bits : ℕ → ℕ) (n base run head word bit : ℕ) → 1 ≤ n → IsScanned bits n base run → IsWord bits base word → run + head < n → bits (base + head) ≡ 0
    → IsLowestRun (bit_at word) n bit → IsLowestRun bits n (base + bit)
scan_within bits n base run head word bit some s w short off found =
    let room : bit + n ≤ 64 = run_fits word n bit w.fits some found.is_run in
    record {
      is_run = λ place from until. at_place bits base word place w (omega arith) (omega arith) ∙ found.is_run (place - base) (omega arith) (omega arith);
      lowest = λ lower lt is_run. elim (cases_lt lower base) [
        | inl before ↦ no_run_across bits n base run head s short off lower before is_run
        | inr from ↦ found.lowest (lower - base) (omega arith) (λ q from2 until. sym (w.at q (omega arith)) ∙ is_run (base + q) (omega arith) (omega arith))
      ];
    }

-- no run within it: the ones at its end go on
pub scan_passes : (bits : ℕ → ℕ) (n base run head word : ℕ) → IsScanned bits n base run → IsWord bits base word → run + head < n → bits (base + head) ≡ 0
    → word + 1 < 2 ^ 64 → HasNoSetRun (bit_at word) n → IsScanned bits n (base + 64) (leading_ones w64 word)
scan_passes bits n base run head word s w short off partial none =
    let tail : ℕ = leading_ones w64 word in
    let few : leading_ones w64 word ≤ 64 = leading_ones-le word in
    let ends = leading_end word partial in
    record {
      short = elim (cases_lt (leading_ones w64 word) n) [
        | inl lt ↦ lt
        | inr le ↦ absurd (none (64 - leading_ones w64 word) (λ q from until. leading_set word q w.fits (omega arith) (omega arith)))
      ];
      back = omega arith;
      is_set = λ place lt le. at_place bits base word place w (omega arith) (omega arith) ∙ leading_set word (place - base) w.fits (omega arith) (omega arith);
      none = λ lower lt is_run. elim (cases_lt lower base) [
        | inl before ↦ no_run_across bits n base run head s short off lower before is_run
        | inr from ↦ elim (cases_lt 64 (lower - base + n)) [
          | inl past ↦
              let set = is_run (base + (63 - leading_ones w64 word)) (omega arith) (omega arith) in
              let is = w.at (63 - leading_ones w64 word) (omega arith) in
              absurd (omega (arith, set, is, ends.1))
          | inr inside ↦ none (lower - base) (λ q from2 until. sym (w.at q (omega arith)) ∙ is_run (base + q) (omega arith) (omega arith))
        ]
      ];
    }

-- no bit is set from `base` on
pub scan_ends : (bits : ℕ → ℕ) (n base run : ℕ) → IsScanned bits n base run → ((place : ℕ) → base ≤ place → bits place ≡ 0) → HasNoSetRun bits n
scan_ends bits n base run s empty lower is_run = elim (cases_lt (lower + run) base) [
  | inl below ↦ s.none lower below is_run
  | inr le ↦
      let set = is_run (lower + n - 1) (omega (arith, s.short)) (omega (arith, s.short)) in
      let off = empty (lower + n - 1) (omega (arith, s.short)) in
      absurd (omega arith)
]

pub scan_same : (bits : ℕ → ℕ) (n base base' run run' : ℕ) → IsScanned bits n base run → base ≡ base' → run ≡ run' → IsScanned bits n base' run'
scan_same bits n base base' run run' s p q =
    let at : IsScanned bits n base' run = subst (λ (b : ℕ). IsScanned bits n b run) p s in subst (λ (r : ℕ). IsScanned bits n base' r) q at
