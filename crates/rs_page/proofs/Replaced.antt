-- A page in which an item is replaced by another one whose format is as long.
use Rattle.std.proofs.Common.{◌≡◌, ℕ, zero, suc, ◌<◌, List, [], ◌∷◌, length, set, refl, sym, subst, arith, Option, Some, None}
use Rattle.std.specs.Prelude.{slice_get, slice_set, IfSome}
use Rattle.std.proofs.lemmas.List.{length-append, length-set}
use Rattle.rs_body.specs.Blocks.{blocks_of}
use Rattle.rs_page.specs.declared.place.Place.{Place}
use Rattle.rs_page.specs.Format.{ItemFormat, items_bytes, page_bytes}
use Rattle.rs_page.specs.Pages.{IsSoundPage, placed_extent}

-- the items together are as long as they were
items_as_long : {T : Type 0} (format : ItemFormat T) (items : List T) (i : ℕ) (item : T) → IfSome (slice_get items i) (λ old. length (format.bytes item) ≡ length (format.bytes old))
    → length (items_bytes format (set items i item)) ≡ length (items_bytes format items)
items_as_long format [] i item same = refl
items_as_long format (x ∷ items) zero item same =
    omega (arith, length-append (format.bytes item) (items_bytes format items), length-append (format.bytes x) (items_bytes format items), same)
items_as_long format (x ∷ items) (suc i) item same =
    omega (arith, length-append (format.bytes x) (items_bytes format (set items i item)), length-append (format.bytes x) (items_bytes format items), items_as_long format items i item same)

-- and so is the page
page_as_long : {T : Type 0} (format : ItemFormat T) (a b : List T) → length (items_bytes format a) ≡ length (items_bytes format b) → length (page_bytes format a) ≡ length (page_bytes format b)
page_as_long format a b same = omega (arith, same)

-- so it is kept
pub replaced : {T : Type 0} (format : ItemFormat T) (items : List T) (place : Place) (i : ℕ) (item : T) → IfSome (slice_get items i) (λ old. length (format.bytes item) ≡ length (format.bytes old))
    → IsSoundPage format items place → IsSoundPage format (set items i item) place
replaced format items place i item same kept =
    let long : length (page_bytes format (set items i item)) ≡ length (page_bytes format items) = page_as_long format (set items i item) items (items_as_long format items i item same) in
    record {
      some = omega (arith, length-set items i item, kept.some);
      most = omega (arith, length-set items i item, kept.most);
      sized = subst (λ (n : ℕ). IfSome (placed_extent place) (λ extent. extent.blocks ≡ blocks_of n)) (sym long) kept.sized;
    }

-- the same of equal items
pub kept_along : {T : Type 0} (format : ItemFormat T) (items new : List T) (place : Place) → new ≡ items → IsSoundPage format items place → IsSoundPage format new place
kept_along {T} format items new place is h = subst (λ (xs : List T). IsSoundPage format xs place) (sym is) h

none_past : {T : Type 0} (items : List T) (i : ℕ) → i < length items → slice_get items i ≡ None → ⊥
none_past [] i inside is = omega arith
none_past (x ∷ items) zero inside is = cc
none_past (x ∷ items) (suc i) inside is = none_past items i (omega arith) is

filled_by : {T : Type 0} (format : ItemFormat T) (filled : T → T) (items new : List T) (place : Place) (i : ℕ) (o : Option T) → slice_get items i ≡ o → i < length items
    → IfSome o (λ item. new ≡ slice_set items i (filled item)) → IfSome o (λ item. length (format.bytes (filled item)) ≡ length (format.bytes item)) → IsSoundPage format items place → IsSoundPage format new place
filled_by {T} format filled items new place i None is inside h size kept = absurd (none_past items i inside is)
filled_by {T} format filled items new place i (Some item) is inside h size kept =
    kept_along format (slice_set items i (filled item)) new place h
    (replaced format items place i (filled item) (subst (λ (o : Option T). IfSome o (λ old. length (format.bytes (filled item)) ≡ length (format.bytes old))) (sym is) size) kept)

-- with the item at i filled
pub filled_kept : {T : Type 0} (format : ItemFormat T) (filled : T → T) (items new : List T) (place : Place) (i : ℕ) → i < length items
    → IfSome (slice_get items i) (λ item. new ≡ slice_set items i (filled item)) → IfSome (slice_get items i) (λ item. length (format.bytes (filled item)) ≡ length (format.bytes item))
    → IsSoundPage format items place → IsSoundPage format new place
filled_kept format filled items new place i inside h size kept = filled_by format filled items new place i (slice_get items i) refl inside h size kept
