-- Sublists: some elements of a list, in its order.
use Rattle.std.proofs.Common.{true≢false, ◌≡◌, inl, inr, ℕ, Bool, true, false, ◌||◌, cond, List, [], ◌∷◌, map, Option, Some, None, refl, sym, ◌∙◌, ap, subst}
use Rattle.std.specs.Prelude.{All, filter, filter_map}
use Rattle.std.specs.List.{cons_option, list_any}
use Rattle.std.proofs.lemmas.Bool.{or_left, or_right}
use Rattle.std.proofs.lemmas.List.Elements.{All-nil, All-cons, All-head, All-tail}
use Rattle.rs_extent.specs.declared.Extent.{Extent}
use Rattle.rs_extent.specs.Extents.{within, in_some, AreApart}
use Rattle.rs_plan.proofs.FromBelow.{some_first, some_rest, some_split, not_true, not_both}
use Rattle.rs_page.specs.SharedPages.{IsSublist}

-- a part of a list is one of its sublists
pub itself : {A : Type 0} (xs : List A) → IsSublist xs xs
itself [] = tt
itself (x ∷ xs) = inl (refl, itself xs)

pub skipped : {A : Type 0} (xs ys : List A) (y : A) → IsSublist xs ys → IsSublist xs (y ∷ ys)
skipped [] ys y h = tt
skipped (x ∷ xs) ys y h = inr h

optional : {B : Type 0} (o : Option B) (xs ys : List B) → IsSublist xs ys → IsSublist (cons_option o xs) (cons_option o ys)
optional None xs ys h = h
optional (Some b) xs ys h = inl (refl, h)

one_more : {B : Type 0} (o : Option B) (xs ys : List B) → IsSublist xs ys → IsSublist xs (cons_option o ys)
one_more None xs ys h = h
one_more (Some b) xs ys h = skipped xs ys b h

-- the values that a function makes of the elements
pub filter_mapped : {A B : Type 0} (f : A → Option B) (xs ys : List A) → IsSublist xs ys → IsSublist (filter_map f xs) (filter_map f ys)
filter_mapped f [] ys h = tt
filter_mapped f (x ∷ xs) [] h = absurd h
filter_mapped {A} f (x ∷ xs) (y ∷ ys) h = elim h [
  | inl both ↦ subst (λ (z : A). IsSublist (filter_map f (x ∷ xs)) (filter_map f (z ∷ ys))) both.0 (optional (f x) (filter_map f xs) (filter_map f ys) (filter_mapped f xs ys both.1))
  | inr later ↦ one_more (f y) (filter_map f (x ∷ xs)) (filter_map f ys) (filter_mapped f (x ∷ xs) ys later)
]

pub mapped : {A B : Type 0} (f : A → B) (xs ys : List A) → IsSublist xs ys → IsSublist (map f xs) (map f ys)
mapped f [] ys h = tt
mapped f (x ∷ xs) [] h = absurd h
mapped f (x ∷ xs) (y ∷ ys) h = elim h [
  | inl both ↦ inl (ap f both.0, mapped f xs ys both.1)
  | inr later ↦ inr (mapped f (x ∷ xs) ys later)
]

pub all_of : {A : Type 0} (P : A → Type 0) (xs ys : List A) → IsSublist xs ys → All P ys → All P xs
all_of P [] ys h all = All-nil P
all_of P (x ∷ xs) [] h all = absurd h
all_of {A} P (x ∷ xs) (y ∷ ys) h all = elim h [
  | inl both ↦ All-cons P x xs (subst P (sym both.0) (All-head P y ys all)) (all_of P xs ys both.1 (All-tail P y ys all))
  | inr later ↦ all_of P (x ∷ xs) ys later (All-tail P y ys all)
]

-- those that pass a test
pub filtered : {A : Type 0} (p : A → Bool) (xs : List A) → IsSublist (filter p xs) xs
filtered p [] = tt
filtered p (x ∷ xs) = one (p x) (filtered p xs)
  where
    one : (t : Bool) → IsSublist (filter p xs) xs → IsSublist (cond t (x ∷ filter p xs) (filter p xs)) (x ∷ xs)
    one true rest = inl (refl, rest)
    one false rest = skipped (filter p xs) xs x rest

-- where one of them passes a test, one of all does
any_split : (s s' t t' : Bool) → s ≡ s' → (t ≡ true → t' ≡ true) → (s || t) ≡ true → (s' || t') ≡ true
any_split true s' t t' same rest is = or_left s' t' (sym same)
any_split false s' t t' same rest is = or_right s' t' (rest is)

pub any_of : {A : Type 0} (p : A → Bool) (xs ys : List A) → IsSublist xs ys → list_any p xs ≡ true → list_any p ys ≡ true
any_of p [] ys h is = absurd (true≢false (sym is))
any_of p (x ∷ xs) [] h is = absurd h
any_of p (x ∷ xs) (y ∷ ys) h is = elim h [
  | inl both ↦ any_split (p x) (p y) (list_any p xs) (list_any p ys) (ap p both.0) (any_of p xs ys both.1) is
  | inr later ↦ or_right (p y) (list_any p ys) (any_of p (x ∷ xs) ys later is)
]

-- some elements of some elements of a list are some of its own
pub among : {A : Type 0} (xs ys zs : List A) → IsSublist xs ys → IsSublist ys zs → IsSublist xs zs
among [] ys zs h k = tt
among (x ∷ xs) [] zs h k = absurd h
among (x ∷ xs) (y ∷ ys) [] h k = absurd k
among {A} (x ∷ xs) (y ∷ ys) (z ∷ zs) h k = elim k [
  | inl both ↦ elim h [
    | inl first ↦ inl (first.0 ∙ both.0, among xs ys zs first.1 both.1)
    | inr later ↦ inr (among (x ∷ xs) ys zs later both.1)
  ]
  | inr skips ↦ inr (among (x ∷ xs) (y ∷ ys) zs h skips)
]

-- blocks of extents
pub some_of : (xs ys : List Extent) → IsSublist xs ys → (b : ℕ) → in_some xs b ≡ true → in_some ys b ≡ true
some_of [] ys h b is = absurd (true≢false (sym is))
some_of (x ∷ xs) [] h b is = absurd h
some_of (x ∷ xs) (y ∷ ys) h b is = elim h [
  | inl both ↦ elim (some_split x xs b is) [
    | inl here ↦ some_first y ys b (subst (λ (e : Extent). within e b ≡ true) both.0 here)
    | inr there ↦ some_rest y ys b (some_of xs ys both.1 b there)
  ]
  | inr later ↦ some_rest y ys b (some_of (x ∷ xs) ys later b is)
]

pub apart_of : (xs ys : List Extent) → IsSublist xs ys → AreApart ys → AreApart xs
apart_of [] ys h apart = tt
apart_of (x ∷ xs) [] h apart = absurd h
apart_of (x ∷ xs) (y ∷ ys) h apart = elim h [
  | inl both ↦ (
    λ b here. not_true (in_some xs b) (λ is. not_both (in_some ys b) (some_of xs ys both.1 b is) (apart.0 b (subst (λ (e : Extent). within e b ≡ true) both.0 here))),
    apart_of xs ys both.1 apart.1,
  )
  | inr later ↦ apart_of (x ∷ xs) ys later apart.1
]
