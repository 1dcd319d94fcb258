-- Extents that are taken or given back one after the other, from the last one on.
use Rattle.std.proofs.Common.{true≢false, ◌≡◌, ◌⊎◌, inl, inr, ℕ, suc, ◌-◌, ◌<◌, ◌≤◌, Bool, true, false, List, [], ◌∷◌, ◌++◌, length, take, drop, get_or, refl, sym, ◌∙◌, ap, subst, arith}
use Rattle.std.proofs.Math.Seq.{drop-cons}
use Rattle.std.proofs.lemmas.List.{ext_get_or, take-append-drop}
use Rattle.rs_extent.specs.declared.Extent.{Extent}
use Rattle.rs_extent.specs.Blocks.{is_used, IsFree, IsTaken, Sets}
use Rattle.rs_extent.specs.Extents.{within, in_some, AreApart, AreTaken, CanTake, AreGiven, CanGive}
use Rattle.rs_extent.proofs.Sets.{not_true, not_both, within_true, within_is, outside, some_first, some_rest, some_split, some_behind, apart_behind}
use Rattle.rs_extent.proofs.Taken.{taken_free, taken_before, can_behind, can_front}

-- The extents from the one before a place on.
from_before : (xs : List Extent) (i : ℕ) (d : Extent) → 0 < i → i ≤ length xs → drop (i - 1) xs ≡ get_or xs (i - 1) d ∷ drop i xs
from_before xs i d some few =
    let here : suc (i - 1) ≡ i = omega arith in
    drop-cons xs (i - 1) d (omega arith) ∙ ap (λ (k : ℕ). get_or xs (i - 1) d ∷ drop k xs) here

-- They are the last ones of all.
in_two : (xs : List Extent) (i : ℕ) (d : Extent) → 0 < i → i ≤ length xs → take (i - 1) xs ++ (get_or xs (i - 1) d ∷ drop i xs) ≡ xs
in_two xs i d some few =
    ap (λ (l : List Extent). take (i - 1) xs ++ l) (sym (from_before xs i d some few)) ∙ take-append-drop (i - 1) xs

-- The next extent to be taken is free, ..
pub next_is_free : (old mid : List Bool) (xs : List Extent) (i : ℕ) (d : Extent) → 0 < i → i ≤ length xs → CanTake old xs → AreTaken old mid (drop i xs)
    → IsFree mid (get_or xs (i - 1) d)
next_is_free old mid xs i d some few can taken =
    let x = get_or xs (i - 1) d in
    let rest : CanTake old (x ∷ drop i xs) = can_behind old (take (i - 1) xs) (x ∷ drop i xs) (subst (CanTake old) (sym (in_two xs i d some few)) can) in
    let one : CanTake mid (x ∷ []) = can_front old mid (x ∷ []) (drop i xs) taken rest in
    λ b ge lt. one.is_free b (some_first x [] b (within_true x b ge lt))

-- .. and is taken with those after it.
pub one_more_taken : (old mid new : List Bool) (xs : List Extent) (i : ℕ) (d : Extent) → 0 < i → i ≤ length xs → CanTake old xs → AreTaken old mid (drop i xs)
    → Sets mid new (get_or xs (i - 1) d) true → AreTaken old new (drop (i - 1) xs)
one_more_taken old mid new xs i d some few can taken sets =
    let x = get_or xs (i - 1) d in
    let one = taken_free mid new x (next_is_free old mid xs i d some few can taken) sets in
    subst (AreTaken old new) (sym (from_before xs i d some few)) (taken_before old mid new (x ∷ []) (drop i xs) taken one)

-- Blocks outside an extent stay as they are when the extent is given back.
beside : (old new : List Bool) (e : Extent) → Sets old new e false → (b : ℕ) → within e b ≡ false → is_used new b ≡ is_used old b
beside old new e sets b isnt = elim (outside e b isnt) [ inl low ↦ sets.before b low | inr high ↦ sets.after b high ]

-- The blocks of an extent are free after it was given back.
inside : (old new : List Bool) (e : Extent) → Sets old new e false → (b : ℕ) → within e b ≡ true → is_used new b ≡ false
inside old new e sets b is = let at = within_is e b is in sets.within b at.0 at.1

-- An extent is given back after others.
given_before : (old mid new : List Bool) (x : Extent) (ys : List Extent) → AreGiven old mid ys → Sets mid new x false → AreGiven old new (x ∷ ys)
given_before old mid new x ys behind sets = record {
  size = sets.size ∙ behind.size;
  after = λ b is. after b (within x b) refl (some_split x ys b is);
  others = λ b none. beside mid new x sets b (not_true (within x b) (λ here. not_both (in_some (x ∷ ys) b) (some_first x ys b here) none))
      ∙ behind.others b (not_true (in_some ys b) (λ there. not_both (in_some (x ∷ ys) b) (some_rest x ys b there) none));
}
  where
    after : (b : ℕ) (t : Bool) → within x b ≡ t → (within x b ≡ true) ⊎ (in_some ys b ≡ true) → is_used new b ≡ false
    after b true here _ = inside mid new x sets b here
    after b false not_here (inl here) = absurd (true≢false (sym here ∙ not_here))
    after b false not_here (inr there) = beside mid new x sets b not_here ∙ behind.after b there

-- The next extent to be given back is used, ..
pub next_is_used : (old mid : List Bool) (xs : List Extent) (i : ℕ) (d : Extent) → 0 < i → i ≤ length xs → CanGive old xs → AreGiven old mid (drop i xs)
    → IsTaken mid (get_or xs (i - 1) d)
next_is_used old mid xs i d some few can given =
    let x = get_or xs (i - 1) d in
    let apart : AreApart (x ∷ drop i xs) = apart_behind (take (i - 1) xs) (x ∷ drop i xs) (subst AreApart (sym (in_two xs i d some few)) can.apart) in
    let among = λ (b : ℕ) (here : within x b ≡ true). subst (λ (l : List Extent). in_some l b ≡ true) (in_two xs i d some few)
    (some_behind (take (i - 1) xs) (x ∷ drop i xs) b (some_first x (drop i xs) b here)) in
    λ b ge lt. let here = within_true x b ge lt in
    (omega (arith, can.on_disk b (among b here), given.size), given.others b (apart.0 b here) ∙ can.are_used b (among b here))

-- .. and is given back with those after it.
pub one_more_given : (old mid new : List Bool) (xs : List Extent) (i : ℕ) (d : Extent) → 0 < i → i ≤ length xs → AreGiven old mid (drop i xs)
    → Sets mid new (get_or xs (i - 1) d) false → AreGiven old new (drop (i - 1) xs)
one_more_given old mid new xs i d some few given sets =
    subst (AreGiven old new) (sym (from_before xs i d some few)) (given_before old mid new (get_or xs (i - 1) d) (drop i xs) given sets)

-- Taking extents and giving them back leaves the set as it was.
pub taken_is_given_back : (old mid new : List Bool) (extents : List Extent) → AreTaken old mid extents → AreGiven mid new extents → new ≡ old
taken_is_given_back old mid new extents taken given =
    ext_get_or true new old (given.size ∙ taken.size) (λ b lt. same b (in_some extents b) refl)
  where
    same : (b : ℕ) (t : Bool) → in_some extents b ≡ t → is_used new b ≡ is_used old b
    same b true is = given.after b is ∙ sym (taken.before b is)
    same b false isnt = given.others b isnt ∙ taken.others b isnt
