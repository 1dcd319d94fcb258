-- Sets of blocks as tests: of one extent, and of several.
use Rattle.std.proofs.Common.{true≢false, ◌≡◌, ◌⊎◌, inl, inr, ℕ, ◌+◌, ◌<◌, ◌≤◌, Bool, true, false, List, [], ◌∷◌, ◌++◌, sym, ◌∙◌, arith}
pub use Rattle.std.proofs.lemmas.Bool.{false_from_ne_true as not_true}
use Rattle.std.proofs.lemmas.Bool.{cases_lt, or_left, or_right, or_cases}
use Rattle.std.proofs.lemmas.Bool.Decides.{nat_tests}
use Rattle.rs_extent.specs.declared.Extent.{Extent}
use Rattle.rs_extent.specs.Extents.{within, in_some, AreDisjoint, IsSubset, AreApart, IsBeside, AreBeside}

pub not_both : (t : Bool) → t ≡ true → t ≡ false → ⊥
not_both t is isnt = true≢false (sym is ∙ isnt)

pub turned : (one other : ℕ → Bool) → AreDisjoint one other → AreDisjoint other one
turned one other apart b is = not_true (one b) (λ here. not_both (other b) is (apart b here))

pub narrowed : (less one more other : ℕ → Bool) → IsSubset less one → IsSubset more other → AreDisjoint one other → AreDisjoint less more
narrowed less one more other left right apart b is = not_true (more b) (λ here. not_both (other b) (right b here) (apart b (left b is)))

-- a block within an extent
pub within_true : (e : Extent) (b : ℕ) → e.first ≤ b → b < e.first + e.blocks → within e b ≡ true
within_true e b le lt = grind (arith, nat_tests)

pub within_is : (e : Extent) (b : ℕ) → within e b ≡ true → (e.first ≤ b) × (b < e.first + e.blocks)
within_is e b is = (grind (arith, nat_tests), grind (arith, nat_tests))

-- a block outside an extent is before it or after it
pub outside : (e : Extent) (b : ℕ) → within e b ≡ false → (b < e.first) ⊎ (e.first + e.blocks ≤ b)
outside e b isnt =
    elim (cases_lt b e.first) [
      | inl low ↦ inl low
      | inr above ↦ elim (cases_lt b (e.first + e.blocks)) [ inl below ↦ absurd (not_both (within e b) (within_true e b above below) isnt) | inr high ↦ inr high ]
    ]

-- a block of the first extent, and of the others
pub some_first : (e : Extent) (es : List Extent) (b : ℕ) → within e b ≡ true → in_some (e ∷ es) b ≡ true
some_first e es b is = or_left (within e b) (in_some es b) is

pub some_rest : (e : Extent) (es : List Extent) (b : ℕ) → in_some es b ≡ true → in_some (e ∷ es) b ≡ true
some_rest e es b is = or_right (within e b) (in_some es b) is

pub some_split : (e : Extent) (es : List Extent) (b : ℕ) → in_some (e ∷ es) b ≡ true → (within e b ≡ true) ⊎ (in_some es b ≡ true)
some_split e es b is = or_cases (within e b) (in_some es b) is

-- a block of the one extent
pub in_one : (e : Extent) (b : ℕ) → in_some (e ∷ []) b ≡ true → within e b ≡ true
in_one e b is = elim (some_split e [] b is) [ inl here ↦ here | inr none ↦ absurd (true≢false (sym none)) ]

-- a block of the front, of the rest, and of both
pub some_front : (xs ys : List Extent) → IsSubset (in_some xs) (in_some (xs ++ ys))
some_front [] ys b is = absurd (true≢false (sym is))
some_front (x ∷ xs) ys b is = elim (some_split x xs b is) [ inl here ↦ some_first x (xs ++ ys) b here | inr there ↦ some_rest x (xs ++ ys) b (some_front xs ys b there) ]

pub some_behind : (xs ys : List Extent) → IsSubset (in_some ys) (in_some (xs ++ ys))
some_behind [] ys b is = is
some_behind (x ∷ xs) ys b is = some_rest x (xs ++ ys) b (some_behind xs ys b is)

pub some_of_both : (xs ys : List Extent) (b : ℕ) → in_some (xs ++ ys) b ≡ true → (in_some xs b ≡ true) ⊎ (in_some ys b ≡ true)
some_of_both [] ys b is = inr is
some_of_both (x ∷ xs) ys b is = elim (some_split x (xs ++ ys) b is) [
  | inl here ↦ inl (some_first x xs b here)
  | inr there ↦ elim (some_of_both xs ys b there) [ inl front ↦ inl (some_rest x xs b front) | inr behind ↦ inr behind ]
]

-- a block outside the extents of two joined lists is outside those of either list
pub none_front : (xs ys : List Extent) (b : ℕ) → in_some (xs ++ ys) b ≡ false → in_some xs b ≡ false
none_front xs ys b none = not_true (in_some xs b) (λ is. not_both (in_some (xs ++ ys) b) (some_front xs ys b is) none)

pub none_behind : (xs ys : List Extent) (b : ℕ) → in_some (xs ++ ys) b ≡ false → in_some ys b ≡ false
none_behind xs ys b none = not_true (in_some ys b) (λ is. not_both (in_some (xs ++ ys) b) (some_behind xs ys b is) none)

-- If extents are disjoint from a set, so is the first of them, ..
pub beside_first : (kept : ℕ → Bool) (e : Extent) (es : List Extent) → AreBeside kept (e ∷ es) → IsBeside kept e
beside_first kept e es beside b is = beside b (some_first e es b is)

-- .. and so are those of the front and those of the rest
pub beside_front : (kept : ℕ → Bool) (xs ys : List Extent) → AreBeside kept (xs ++ ys) → AreBeside kept xs
beside_front kept xs ys beside b is = beside b (some_front xs ys b is)

pub beside_behind : (kept : ℕ → Bool) (xs ys : List Extent) → AreBeside kept (xs ++ ys) → AreBeside kept ys
beside_behind kept xs ys beside b is = beside b (some_behind xs ys b is)

-- two lists that are apart in themselves and from one another
pub apart_both : (xs ys : List Extent) → AreApart xs → AreApart ys → AreDisjoint (in_some xs) (in_some ys) → AreApart (xs ++ ys)
apart_both [] ys of_xs of_ys between = of_ys
apart_both (x ∷ xs) ys of_xs of_ys between = (
  λ b here. not_true (in_some (xs ++ ys) b) (λ is. elim (some_of_both xs ys b is) [
    | inl front ↦ not_both (in_some xs b) front (of_xs.0 b here)
    | inr behind ↦ not_both (in_some ys b) behind (between b (some_first x xs b here))
  ]),
  apart_both xs ys of_xs.1 of_ys (λ b is. between b (some_rest x xs b is)),
)

pub apart_behind : (xs ys : List Extent) → AreApart (xs ++ ys) → AreApart ys
apart_behind [] ys apart = apart
apart_behind (x ∷ xs) ys apart = apart_behind xs ys apart.1

pub apart_front : (xs ys : List Extent) → AreApart (xs ++ ys) → AreApart xs
apart_front [] ys apart = tt
apart_front (x ∷ xs) ys apart = (λ b here. none_front xs ys b (apart.0 b here), apart_front xs ys apart.1)

pub apart_between : (xs ys : List Extent) → AreApart (xs ++ ys) → AreDisjoint (in_some xs) (in_some ys)
apart_between [] ys apart b is = absurd (true≢false (sym is))
apart_between (x ∷ xs) ys apart b is = elim (some_split x xs b is) [
  | inl here ↦ none_behind xs ys b (apart.0 b here)
  | inr there ↦ apart_between xs ys apart.1 b there
]

pub beside_between : (xs ys : List Extent) → AreApart (xs ++ ys) → AreBeside (in_some xs) ys
beside_between xs ys apart = turned (in_some xs) (in_some ys) (apart_between xs ys apart)
