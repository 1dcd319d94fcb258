-- The published pages that a root reaches in addition to those of its catalogue.
use Rattle.std.proofs.Common.{true≢false, ◌≡◌, ◌⊎◌, inl, inr, ℕ, Bool, true, false, ◌&&◌, ◌||◌, cond, not, List, [], ◌∷◌, nat_eq, refl, sym, ◌∙◌, ap, ap₂, subst, arith}
use Rattle.std.specs.Prelude.{bytes_eq}
use Rattle.std.specs.Cmp.{first_so, second_so}
use Rattle.std.specs.List.{list_any}
use Rattle.std.proofs.lemmas.Bool.{and_from, or_left, or_right}
use Rattle.std.proofs.lemmas.Bool.Decides.{nat_tests}
use Rattle.std.proofs.lemmas.Slice.Eq.{bytes_eq-Decides}
use Rattle.rs_extent.specs.declared.Extent.{Extent}
use Rattle.rs_extent.specs.Extents.{within, in_some, AreApart, AreDisjoint}
use Rattle.rs_plan.proofs.FromBelow.{not_true, not_both, some_first, some_rest, some_split}
use Rattle.rs_page.specs.declared.place.PageRef.{PageRef}
use Rattle.rs_page.specs.Pages.{same_page, extents_of}
use Rattle.rs_page.specs.SharedPages.{IsSublist}
use Rattle.rs_pages.specs.Storing.{unshared}
use Rattle.rs_plan.proofs.Sublists.{mapped, filtered, any_of, skipped, some_of, apart_of, itself as itself_all}

pub same_number : (m n : ℕ) → nat_eq m n ≡ true → m ≡ n
same_number m n h = grind (arith, nat_tests)

itself_number : (n : ℕ) → nat_eq n n ≡ true
itself_number n = grind (arith, nat_tests)

-- a page is itself
pub itself : (ref : PageRef) → same_page ref ref ≡ true
itself ref =
    and_from (nat_eq ref.extent.first ref.extent.first && nat_eq ref.extent.blocks ref.extent.blocks && nat_eq ref.length ref.length) (bytes_eq ref.sha256 ref.sha256)
    (and_from (nat_eq ref.extent.first ref.extent.first && nat_eq ref.extent.blocks ref.extent.blocks) (nat_eq ref.length ref.length)
    (and_from (nat_eq ref.extent.first ref.extent.first) (nat_eq ref.extent.blocks ref.extent.blocks) (itself_number ref.extent.first) (itself_number ref.extent.blocks))
    (itself_number ref.length))
    ((bytes_eq-Decides ref.sha256 ref.sha256).1 refl)

-- the same page has the same blocks
pub same_extent : (a b : PageRef) → same_page a b ≡ true → a.extent ≡ b.extent
same_extent a b h =
    let extents = first_so (nat_eq a.extent.first b.extent.first && nat_eq a.extent.blocks b.extent.blocks) (nat_eq a.length b.length)
    (first_so (nat_eq a.extent.first b.extent.first && nat_eq a.extent.blocks b.extent.blocks && nat_eq a.length b.length) (bytes_eq a.sha256 b.sha256) h) in
    ap₂ (λ (f n : ℕ). let e : Extent = record { first = f; blocks = n } in e)
    (same_number a.extent.first b.extent.first (first_so (nat_eq a.extent.first b.extent.first) (nat_eq a.extent.blocks b.extent.blocks) extents))
    (same_number a.extent.blocks b.extent.blocks (second_so (nat_eq a.extent.first b.extent.first) (nat_eq a.extent.blocks b.extent.blocks) extents))

-- a page that is one of these has their blocks
pub shared_some : (ref : PageRef) (refs : List PageRef) (b : ℕ) → list_any (same_page ref) refs ≡ true → within ref.extent b ≡ true → in_some (extents_of refs) b ≡ true
shared_some ref [] b h is = absurd (true≢false (sym h))
shared_some ref (x ∷ refs) b h is = one (same_page ref x) refl (λ rest. shared_some ref refs b rest is)
  where
    one : (t : Bool) → same_page ref x ≡ t → (list_any (same_page ref) refs ≡ true → in_some (extents_of refs) b ≡ true) → in_some (extents_of (x ∷ refs)) b ≡ true
    one true same later = some_first x.extent (extents_of refs) b (subst (λ (e : Extent). within e b ≡ true) (same_extent ref x same) is)
    one false other later = some_rest x.extent (extents_of refs) b (later (sym (ap (λ (t : Bool). t || list_any (same_page ref) refs) other) ∙ h))

-- a block of some pages is one of theirs with one more or without
still : (ref : PageRef) (refs : List PageRef) (b : ℕ) (t : Bool) → in_some (extents_of refs) b ≡ true → in_some (extents_of (cond (not t) (ref ∷ refs) refs)) b ≡ true
still ref refs b true is = is
still ref refs b false is = some_rest ref.extent (extents_of refs) b is

-- A block of the published pages is one of the catalogue's or one of those that are not shared.
pub published_some : (refs catalogue : List PageRef) (b : ℕ) → in_some (extents_of refs) b ≡ true
    → (in_some (extents_of catalogue) b ≡ true) ⊎ (in_some (extents_of (unshared refs catalogue)) b ≡ true)
published_some [] catalogue b is = absurd (true≢false (sym is))
published_some (ref ∷ refs) catalogue b is = elim (some_split ref.extent (extents_of refs) b is) [
  | inl here ↦ here_is (list_any (same_page ref) catalogue) refl here
  | inr there ↦ elim (published_some refs catalogue b there) [ inl shared ↦ inl shared | inr alone ↦ inr (still ref (unshared refs catalogue) b (list_any (same_page ref) catalogue) alone) ]
]
  where
    here_is : (t : Bool) → list_any (same_page ref) catalogue ≡ t → within ref.extent b ≡ true
        → (in_some (extents_of catalogue) b ≡ true) ⊎ (in_some (extents_of (cond (not (list_any (same_page ref) catalogue)) (ref ∷ unshared refs catalogue) (unshared refs catalogue))) b ≡ true)
    here_is true h here = inl (shared_some ref catalogue b h here)
    here_is false h here =
        inr (subst (λ (t : Bool). in_some (extents_of (cond (not t) (ref ∷ unshared refs catalogue) (unshared refs catalogue))) b ≡ true) (sym h)
        (some_first ref.extent (extents_of (unshared refs catalogue)) b here))

-- and those that are not shared are published
pub unshared_some : (refs catalogue : List PageRef) (b : ℕ) → in_some (extents_of (unshared refs catalogue)) b ≡ true → in_some (extents_of refs) b ≡ true
unshared_some [] catalogue b is = is
unshared_some (ref ∷ refs) catalogue b is = one (list_any (same_page ref) catalogue) is (unshared_some refs catalogue b)
  where
    one : (t : Bool) → in_some (extents_of (cond (not t) (ref ∷ unshared refs catalogue) (unshared refs catalogue))) b ≡ true
        → (in_some (extents_of (unshared refs catalogue)) b ≡ true → in_some (extents_of refs) b ≡ true) → in_some (extents_of (ref ∷ refs)) b ≡ true
    one true is later = some_rest ref.extent (extents_of refs) b (later is)
    one false is later = elim (some_split ref.extent (extents_of (unshared refs catalogue)) b is) [
      | inl here ↦ some_first ref.extent (extents_of refs) b here
      | inr there ↦ some_rest ref.extent (extents_of refs) b (later there)
    ]

-- pages that are apart are so without those that are shared
pub unshared_apart : (refs catalogue : List PageRef) → AreApart (extents_of refs) → AreApart (extents_of (unshared refs catalogue))
unshared_apart refs catalogue apart =
    apart_of (extents_of (unshared refs catalogue)) (extents_of refs)
    (mapped (λ ref. ref.extent) (unshared refs catalogue) refs (filtered (λ ref. not (list_any (same_page ref) catalogue)) refs)) apart

-- pages that are shared with some pages are shared with more
shared_more : (refs few more : List PageRef) → IsSublist few more → unshared refs few ≡ [] → unshared refs more ≡ []
shared_more [] few more of_more none = refl
shared_more (ref ∷ refs) few more of_more none = one (list_any (same_page ref) few) refl none (shared_more refs few more of_more)
  where
    one : (t : Bool) → list_any (same_page ref) few ≡ t → cond (not t) (ref ∷ unshared refs few) (unshared refs few) ≡ [] → (unshared refs few ≡ [] → unshared refs more ≡ [])
        → unshared (ref ∷ refs) more ≡ []
    one true shared none rest =
        ap (λ (t : Bool). cond (not t) (ref ∷ unshared refs more) (unshared refs more)) (any_of (same_page ref) few more of_more shared) ∙ rest none
    one false shared none rest = cc

-- all pages are shared with themselves
pub unshared_itself : (refs : List PageRef) → unshared refs refs ≡ []
unshared_itself [] = refl
unshared_itself (ref ∷ refs) =
    ap (λ (t : Bool). cond (not (t || list_any (same_page ref) refs)) (ref ∷ unshared refs (ref ∷ refs)) (unshared refs (ref ∷ refs))) (itself ref)
    ∙ shared_more refs refs (ref ∷ refs) (skipped refs refs ref (itself_all refs)) (unshared_itself refs)

-- A page among some that are apart shares a block only with itself: a kept page that has one of its blocks is that
-- page.
abbrev KeepsShared : PageRef → ℕ → List PageRef → List PageRef → Type 0
KeepsShared ref b kept before =
    IsSublist kept before → AreApart (extents_of before) → list_any (same_page ref) before ≡ true → in_some (extents_of kept) b ≡ true → list_any (same_page ref) kept ≡ true

kept_shared : (ref : PageRef) (b : ℕ) → within ref.extent b ≡ true → (kept before : List PageRef) → KeepsShared ref b kept before
kept_shared ref b here [] before of_before apart shared is = absurd (true≢false (sym is))
kept_shared ref b here (k ∷ kept) [] of_before apart shared is = absurd of_before
kept_shared ref b here (k ∷ kept) (x ∷ before) of_before apart shared is =
    one (same_page ref x) refl shared (kept_shared ref b here kept before) (kept_shared ref b here (k ∷ kept) before)
  where
    first_alone : within x.extent b ≡ true → in_some (extents_of before) b ≡ true → ⊥
    first_alone in_first in_rest = not_both (in_some (extents_of before) b) in_rest (apart.0 b in_first)

    one : (t : Bool) → same_page ref x ≡ t → (t || list_any (same_page ref) before) ≡ true → KeepsShared ref b kept before → KeepsShared ref b (k ∷ kept) before
        → list_any (same_page ref) (k ∷ kept) ≡ true
    one true same shared rest later = elim of_before [
      | inl both ↦ or_left (same_page ref k) (list_any (same_page ref) kept) (subst (λ (v : PageRef). same_page ref v ≡ true) (sym both.0) same)
      | inr skips ↦ absurd (first_alone (subst (λ (e : Extent). within e b ≡ true) (same_extent ref x same) here)
          (some_of (extents_of (k ∷ kept)) (extents_of before) (mapped (λ v. v.extent) (k ∷ kept) before skips) b is))
    ]
    one false other shared rest later = elim of_before [
      | inl both ↦ elim (some_split k.extent (extents_of kept) b is) [
        | inl first ↦ absurd (first_alone (subst (λ (v : PageRef). within v.extent b ≡ true) both.0 first) (shared_some ref before b shared here))
        | inr there ↦ or_right (same_page ref k) (list_any (same_page ref) kept) (rest both.1 apart.1 shared there)
      ]
      | inr skips ↦ later skips apart.1 shared is
    ]

-- Where a kept page shares a block with a published page that is not shared after, it did so with one that was not
-- shared before.
unshared_before : (refs before after kept : List PageRef) (b : ℕ) → IsSublist kept before → IsSublist kept after → AreApart (extents_of before)
    → in_some (extents_of kept) b ≡ true → in_some (extents_of (unshared refs after)) b ≡ true → in_some (extents_of (unshared refs before)) b ≡ true
unshared_before [] before after kept b of_before of_after apart here is = is
unshared_before (ref ∷ refs) before after kept b of_before of_after apart here is =
    one (list_any (same_page ref) after) refl is (unshared_before refs before after kept b of_before of_after apart here)
  where
    alone : (t : Bool) → list_any (same_page ref) before ≡ t → list_any (same_page ref) after ≡ false → within ref.extent b ≡ true
        → in_some (extents_of (cond (not t) (ref ∷ unshared refs before) (unshared refs before))) b ≡ true
    alone true shared none first =
        absurd (not_both (list_any (same_page ref) after) (any_of (same_page ref) kept after of_after (kept_shared ref b first kept before of_before apart shared here)) none)
    alone false shared none first = some_first ref.extent (extents_of (unshared refs before)) b first

    one : (t : Bool) → list_any (same_page ref) after ≡ t → in_some (extents_of (cond (not t) (ref ∷ unshared refs after) (unshared refs after))) b ≡ true
        → (in_some (extents_of (unshared refs after)) b ≡ true → in_some (extents_of (unshared refs before)) b ≡ true) → in_some (extents_of (unshared (ref ∷ refs) before)) b ≡ true
    one true shared is rest = still ref (unshared refs before) b (list_any (same_page ref) before) (rest is)
    one false none is rest = elim (some_split ref.extent (extents_of (unshared refs after)) b is) [
      | inl first ↦ alone (list_any (same_page ref) before) refl none first
      | inr there ↦ still ref (unshared refs before) b (list_any (same_page ref) before) (rest there)
    ]

-- So kept pages stay apart from the published pages that are not shared.
pub beside_kept : (refs before after kept : List PageRef) → IsSublist kept before → IsSublist kept after → AreApart (extents_of before)
    → AreDisjoint (in_some (extents_of before)) (in_some (extents_of (unshared refs before)))
    → AreDisjoint (in_some (extents_of kept)) (in_some (extents_of (unshared refs after)))
beside_kept refs before after kept of_before of_after apart beside b here =
    not_true (in_some (extents_of (unshared refs after)) b) (λ is. not_both (in_some (extents_of (unshared refs before)) b)
    (unshared_before refs before after kept b of_before of_after apart here is)
    (beside b (some_of (extents_of kept) (extents_of before) (mapped (λ ref. ref.extent) kept before of_before) b here)))
