-- The used blocks of a disk, and the bits of the free ones.
use Rattle.std.proofs.Common.{◌≡◌, inl, inr, ℕ, zero, suc, ◌+◌, ◌*◌, ◌/◌, ◌%◌, ◌^◌, ◌<◌, ◌≤◌, Bool, true, false, nat_eq, nat_lt, List, length, take, drop, ◌++◌, get_or, replicate, Option, Some, None, is_some, refl, sym, ◌∙◌, ap, subst, arith}
use Rattle.std.specs.Prelude.{MatchOption}
use Rattle.std.specs.Int.{bit_at}
use Rattle.std.proofs.Math.Seq.{take-append_seam}
use Rattle.std.proofs.lemmas.Nat.Bits.{bit_at-lt, bit_at-zero}
use Rattle.std.proofs.lemmas.Bool.{cases_lt, true≢false, eq-eqb, ne_eqb, eqb-false, lt-ltb, le-ltb}
use Rattle.rs_extent.specs.declared.Extent.{Extent}
use Rattle.rs_extent.specs.Blocks.{is_used, IsFreeRun, IsLowest, Sets}
use Rattle.rs_extent.specs.Words.{bit_of, IsSetRun, IsLowestRun, SetsBits}
use Rattle.rs_extent.specs.Bitmap.{table, used_blocks, IsBitmap}
use Rattle.rs_extent.proofs.Blocks.{run_on_disk}
use Rattle.rs_extent.proofs.Places.{bit_of-word}

length-table : (n : ℕ) (f : ℕ → Bool) → length (table n f) ≡ n
length-table zero f = refl
length-table (suc n) f = omega (arith, length-table n (λ i. f (suc i)))

table_at : (n : ℕ) (f : ℕ → Bool) (i : ℕ) → i < n → get_or (table n f) i true ≡ f i
table_at zero f i lt = absurd (omega (arith, lt))
table_at (suc n) f zero lt = refl
table_at (suc n) f (suc i) lt = table_at n (λ k. f (suc k)) i (omega arith)

table_past : (n : ℕ) (f : ℕ → Bool) (i : ℕ) → n ≤ i → get_or (table n f) i true ≡ true
table_past zero f i le = refl
table_past (suc n) f zero le = absurd (omega (arith, le))
table_past (suc n) f (suc i) le = table_past n (λ k. f (suc k)) i (omega arith)

pub length-used_blocks : (blocks : ℕ) (words : List ℕ) → length (used_blocks blocks words) ≡ blocks
length-used_blocks blocks words = length-table blocks (λ b. nat_eq (bit_of words b) 0)

-- a block is used if its bit isn't set, past the end too
pub used_at : (blocks full : ℕ) (words : List ℕ) → IsBitmap blocks words full → (b : ℕ) → is_used (used_blocks blocks words) b ≡ nat_eq (bit_of words b) 0
used_at blocks full words map b = elim (cases_lt b blocks) [
  | inl lt ↦ table_at blocks (λ k. nat_eq (bit_of words k) 0) b lt
  | inr le ↦ table_past blocks (λ k. nat_eq (bit_of words k) 0) b le ∙ sym (eq-eqb (bit_of words b) 0 (map.ends b le))
]

-- a block whose bit stays is used as before
used_same : (blocks : ℕ) (old new : List ℕ) (b : ℕ) → bit_of new b ≡ bit_of old b → is_used (used_blocks blocks new) b ≡ is_used (used_blocks blocks old) b
used_same blocks old new b is = elim (cases_lt b blocks) [
  | inl lt ↦
      table_at blocks (λ k. nat_eq (bit_of new k) 0) b lt ∙ ap (λ (v : ℕ). nat_eq v 0) is ∙ sym (table_at blocks (λ k. nat_eq (bit_of old k) 0) b lt)
  | inr le ↦ table_past blocks (λ k. nat_eq (bit_of new k) 0) b le ∙ sym (table_past blocks (λ k. nat_eq (bit_of old k) 0) b le)
]

bit_of-lt : (words : List ℕ) (b : ℕ) → bit_of words b < 2
unfolding bit_of
bit_of-lt words b = bit_at-lt (get_or words (b / 64) 0) (b % 64)

-- the same at the list that contracts see
pub free_set : (blocks full : ℕ) (words : List ℕ) (used : List Bool) → IsBitmap blocks words full → used_blocks blocks words ≡ used → (b : ℕ) → is_used used b ≡ false → bit_of words b ≡ 1
free_set blocks full words used map is b free =
    let off : nat_eq (bit_of words b) 0 ≡ false = sym (used_at blocks full words map b) ∙ ap (λ (l : List Bool). is_used l b) is ∙ free in
    let some = eqb-false (bit_of words b) 0 off in
    omega (arith, bit_of-lt words b)

pub set_free : (blocks full : ℕ) (words : List ℕ) (used : List Bool) → IsBitmap blocks words full → used_blocks blocks words ≡ used → (b : ℕ) → bit_of words b ≡ 1 → is_used used b ≡ false
set_free blocks full words used map is b set =
    ap (λ (l : List Bool). is_used l b) (sym is) ∙ used_at blocks full words map b ∙ ne_eqb (bit_of words b) 0 (λ none. omega arith)

-- bits that were cleared, and words from `full` up to `next` that are zero
pub bitmap_taken : (blocks full next first end : ℕ) (old new : List ℕ) → IsBitmap blocks old full → length new ≡ length old → SetsBits old new first end 0
    → ((i : ℕ) → full ≤ i → i < next → get_or new i 0 ≡ 0) → IsBitmap blocks new next
bitmap_taken blocks full next first end old new map same sets zeros =
    let off : (b : ℕ) → bit_of old b ≡ 0 → bit_of new b ≡ 0 = λ b none. elim (cases_lt b first) [
      | inl lt ↦ sets.before b lt ∙ none
      | inr le ↦ elim (cases_lt b end) [ inl lt ↦ sets.within b le lt | inr past ↦ sets.after b past ∙ none ]
    ] in
    record {
      covers = omega (arith, map.covers);
      short = omega (arith, map.short);
      ends = λ b le. off b (map.ends b le);
      is_full = λ b lt. elim (cases_lt b (64 * full)) [
        | inl below ↦ off b (map.is_full b below)
        | inr le ↦ bit_of-word new (b / 64) b refl ∙ ap (λ (n : ℕ). bit_at n (b % 64)) (zeros (b / 64) (omega arith) (omega arith)) ∙ bit_at-zero (b % 64)
      ];
    }

-- bits that were set
pub bitmap_given : (blocks full next first end : ℕ) (old new : List ℕ) → IsBitmap blocks old full → length new ≡ length old → SetsBits old new first end 1
    → end ≤ blocks → next ≤ full → 64 * next ≤ first → IsBitmap blocks new next
bitmap_given blocks full next first end old new map same sets inside fewer below = record {
  covers = omega (arith, map.covers);
  short = omega (arith, map.short);
  ends = λ b le. sets.after b (omega arith) ∙ map.ends b le;
  is_full = λ b lt. sets.before b (omega arith) ∙ map.is_full b (omega arith);
}

-- the elements of a `Vec` whose slice was written
abbrev pub stored_words : ℕ → List ℕ → List ℕ → List ℕ
stored_words len new items = take len (new ++ drop (length new) items)

stored_words-new : (len : ℕ) (new items : List ℕ) → length new ≡ len → stored_words len new items ≡ new
stored_words-new len new items is = ap (λ (n : ℕ). take n (new ++ drop (length new) items)) (sym is) ∙ take-append_seam new (drop (length new) items)

-- runs of set bits are runs of free blocks
pub bits_run : (blocks full : ℕ) (words : List ℕ) (used : List Bool) (first n : ℕ) → IsBitmap blocks words full → used_blocks blocks words ≡ used
    → IsFreeRun used first n → IsSetRun (bit_of words) first n
bits_run blocks full words used first n map is run place from until = free_set blocks full words used map is place (run place from until)

pub blocks_run : (blocks full : ℕ) (words : List ℕ) (used : List Bool) (first n : ℕ) → IsBitmap blocks words full → used_blocks blocks words ≡ used
    → IsSetRun (bit_of words) first n → IsFreeRun used first n
blocks_run blocks full words used first n map is run place from until = set_free blocks full words used map is place (run place from until)

pub length-used : (blocks : ℕ) (words : List ℕ) (used : List Bool) → used_blocks blocks words ≡ used → length used ≡ blocks
length-used blocks words used is = ap (λ (l : List Bool). length l) (sym is) ∙ length-used_blocks blocks words

pub lowest_free : (blocks full : ℕ) (words : List ℕ) (used : List Bool) (first n : ℕ) → IsBitmap blocks words full → used_blocks blocks words ≡ used
    → 1 ≤ n → IsLowestRun (bit_of words) n first → IsLowest used n (record { first = first; blocks = n })
lowest_free blocks full words used first n map is some found =
    let free = blocks_run blocks full words used first n map is found.is_run in
    record {
      blocks = refl;
      inside = run_on_disk used first n free some;
      is_free = free;
      lowest = λ lower lt run. found.lowest lower lt (bits_run blocks full words used lower n map is run);
    }

-- the words of a new disk, whose blocks from 2 on are free
pub bitmap_made : (blocks : ℕ) (old new : List ℕ) → ((b : ℕ) → bit_of old b ≡ 0) → SetsBits old new 2 blocks 1 → blocks ≤ 64 * length new → length new ≤ 2 ^ 26 → IsBitmap blocks new 0
bitmap_made blocks old new none sets covers short = record {
  covers = covers;
  short = short;
  ends = λ b le. sets.after b le ∙ none b;
  is_full = λ b lt. absurd (omega arith);
}

-- no bit of words that are all 0 is set
pub bit_of-zeros : (n b : ℕ) → bit_of (replicate n 0) b ≡ 0
unfolding bit_of
bit_of-zeros n b = ap (λ (w : ℕ). bit_at w (b % 64)) (zeros n (b / 64)) ∙ bit_at-zero (b % 64)
  where
    zeros : (k i : ℕ) → get_or {A = ℕ} (replicate k 0) i 0 ≡ 0
    zeros zero i = refl
    zeros (suc k) zero = refl
    zeros (suc k) (suc i) = zeros k i

-- a run that a search gave
pub found_run : (found : Option Extent) (used : List Bool) (n : ℕ) (P : Type 0) → MatchOption found P (IsLowest used n) → true ≡ is_some found → (first : ℕ) × IsFreeRun used first n
found_run None used n P h e = absurd (true≢false e)
found_run (Some e) used n P h some = let run : IsFreeRun used e.first n = subst (IsFreeRun used e.first) h.blocks h.is_free in (e.first, run)

-- ---- words that were changed as a slice, and are stored in their `Vec` again

-- taking an extent
pub stored_taken : (blocks full next len : ℕ) (old slice new : List ℕ) (first end : ℕ) → IsBitmap blocks old full → slice ≡ old → length new ≡ length slice → length slice ≡ len
    → SetsBits slice new first end 0 → ((i : ℕ) → full ≤ i → i < next → get_or (stored_words len new old) i 0 ≡ 0) → IsBitmap blocks (stored_words len new old) next
stored_taken blocks full next len old slice new first end map is same fits sets zeros =
    let kept = stored_words-new len new old (same ∙ fits) in
    let change = subst (λ (l : List ℕ). SetsBits l new first end 0) is sets in
    let done = bitmap_taken blocks full next first end old new map (same ∙ ap (λ (l : List ℕ). length l) is) change
    (λ i from until. ap (λ (l : List ℕ). get_or l i 0) (sym kept) ∙ zeros i from until) in
    subst (λ (l : List ℕ). IsBitmap blocks l next) (sym kept) done

-- giving one back
pub stored_given : (blocks full next len : ℕ) (old slice new : List ℕ) (first end : ℕ) → IsBitmap blocks old full → slice ≡ old → length new ≡ length slice → length slice ≡ len
    → SetsBits slice new first end 1 → end ≤ blocks → next ≤ full → 64 * next ≤ first → IsBitmap blocks (stored_words len new old) next
stored_given blocks full next len old slice new first end map is same fits sets inside fewer below =
    let kept = stored_words-new len new old (same ∙ fits) in
    let change = subst (λ (l : List ℕ). SetsBits l new first end 1) is sets in
    let done = bitmap_given blocks full next first end old new map (same ∙ ap (λ (l : List ℕ). length l) is) change inside fewer below in
    subst (λ (l : List ℕ). IsBitmap blocks l next) (sym kept) done

-- a new disk
pub stored_made : (blocks len : ℕ) (old slice new : List ℕ) → ((b : ℕ) → bit_of old b ≡ 0) → slice ≡ old → length new ≡ length slice → length slice ≡ len
    → SetsBits slice new 2 blocks 1 → blocks ≤ 64 * len → len ≤ 2 ^ 26 → IsBitmap blocks (stored_words len new old) 0
stored_made blocks len old slice new none is same fits sets covers short =
    let kept = stored_words-new len new old (same ∙ fits) in
    let change = subst (λ (l : List ℕ). SetsBits l new 2 blocks 1) is sets in
    let done = bitmap_made blocks old new none change (omega arith) (omega arith) in
    subst (λ (l : List ℕ). IsBitmap blocks l 0) (sym kept) done

-- the view that contracts have of an extent that was taken or given back
pub stored_sets : (blocks len value : ℕ) (old slice new : List ℕ) (used : List Bool) (e : Extent) → used_blocks blocks old ≡ used → slice ≡ old → length new ≡ length slice → length slice ≡ len
    → SetsBits slice new e.first (e.first + e.blocks) value → e.first + e.blocks ≤ blocks → Sets used (used_blocks blocks (stored_words len new old)) e (nat_eq value 0)
stored_sets blocks len value old slice new used e view is same fits sets inside =
    let kept = stored_words-new len new old (same ∙ fits) in
    let change = subst (λ (l : List ℕ). SetsBits l new e.first (e.first + e.blocks) value) is sets in
    let done : Sets (used_blocks blocks old) (used_blocks blocks new) e (nat_eq value 0) = record {
      size = length-used_blocks blocks new ∙ sym (length-used_blocks blocks old);
      within = λ b from until. table_at blocks (λ k. nat_eq (bit_of new k) 0) b (omega arith) ∙ ap (λ (v : ℕ). nat_eq v 0) (change.within b from until);
      before = λ b lt. used_same blocks old new b (change.before b lt);
      after = λ b le. used_same blocks old new b (change.after b le);
    } in
    let seen = subst (λ (u : List Bool). Sets u (used_blocks blocks new) e (nat_eq value 0)) view done in
    subst (λ (l : List ℕ). Sets used (used_blocks blocks l) e (nat_eq value 0)) (sym kept) seen

-- the view that they have of a new disk
pub stored_used : (blocks len : ℕ) (old slice new : List ℕ) → ((b : ℕ) → bit_of old b ≡ 0) → slice ≡ old → length new ≡ length slice → length slice ≡ len
    → SetsBits slice new 2 blocks 1 → (b : ℕ) → b < blocks → is_used (used_blocks blocks (stored_words len new old)) b ≡ nat_lt b 2
stored_used blocks len old slice new none is same fits sets b inside =
    let kept = stored_words-new len new old (same ∙ fits) in
    let change = subst (λ (l : List ℕ). SetsBits l new 2 blocks 1) is sets in
    ap (λ (l : List ℕ). is_used (used_blocks blocks l) b) kept ∙ table_at blocks (λ k. nat_eq (bit_of new k) 0) b inside ∙ elim (cases_lt b 2) [
      | inl lt ↦ eq-eqb (bit_of new b) 0 (change.before b lt ∙ none b) ∙ sym (lt-ltb b 2 lt)
      | inr le ↦ ne_eqb (bit_of new b) 0 (λ off. let set = change.within b le inside in omega arith) ∙ sym (le-ltb b 2 le)
    ]
