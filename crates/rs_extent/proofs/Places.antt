-- Bits in a row of words, of which one word changes.
use Rattle.std.proofs.Common.{◌≡◌, ℕ, ◌+◌, ◌*◌, ◌/◌, ◌%◌, ◌<◌, ◌≤◌, List, length, get_or, ap, ◌∙◌, arith}
use Rattle.std.specs.Int.{bit_at}
use Rattle.std.proofs.Math.ListN.{set}
use Rattle.std.proofs.lemmas.Nat.Bits.{bit_at-zero}
use Rattle.std.proofs.lemmas.List.{get_or_past, get_or-set_same, get_or-set_other}
use Rattle.rs_extent.specs.Words.{bit_of}

-- a bit by its word
pub bit_of-word : (words : List ℕ) (i place : ℕ) → place / 64 ≡ i → bit_of words place ≡ bit_at (get_or words i 0) (place % 64)
unfolding bit_of
bit_of-word words i place is = ap (λ (k : ℕ). bit_at (get_or words k 0) (place % 64)) is

-- the bits of a word
pub bit_of-at : (words : List ℕ) (i bit : ℕ) → bit < 64 → bit_of words (64 * i + bit) ≡ bit_at (get_or words i 0) bit
bit_of-at words i bit small =
    let low : (64 * i + bit) % 64 ≡ bit = omega arith in
    bit_of-word words i (64 * i + bit) (omega arith) ∙ ap (bit_at (get_or words i 0)) low

-- no bit is set past the last word
pub bit_of-past : (words : List ℕ) (place : ℕ) → 64 * length words ≤ place → bit_of words place ≡ 0
unfolding bit_of
bit_of-past words place past =
    ap (λ (n : ℕ). bit_at n (place % 64)) (get_or_past words (place / 64) 0 (omega arith)) ∙ bit_at-zero (place % 64)

-- a bit of the word that was written
pub bit_of-set_same : (words : List ℕ) (i word place : ℕ) → i < length words → place / 64 ≡ i → bit_of (set words i word) place ≡ bit_at word (place % 64)
unfolding bit_of
bit_of-set_same words i word place lt is =
    ap (λ (k : ℕ). bit_at (get_or (set words i word) k 0) (place % 64)) is ∙ ap (λ (n : ℕ). bit_at n (place % 64)) (get_or-set_same words i word 0 lt)

-- a bit of another word
pub bit_of-set_other : (words : List ℕ) (i word place : ℕ) → (place / 64 ≡ i → ⊥) → bit_of (set words i word) place ≡ bit_of words place
unfolding bit_of
bit_of-set_other words i word place other = ap (λ (n : ℕ). bit_at n (place % 64)) (get_or-set_other words i (place / 64) word 0 other)
