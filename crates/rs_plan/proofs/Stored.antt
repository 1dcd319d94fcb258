-- Pages once they are stored.
use Rattle.std.proofs.Common.{true≢false, ◌≡◌, ◌⊎◌, inl, inr, ℕ, ◌+◌, ◌-◌, ◌*◌, ◌<◌, ◌≤◌, true, List, [], ◌∷◌, ◌++◌, length, refl, sym, ap, arith}
use Rattle.std.specs.Prelude.{All, IfSome, IsSome}
use Rattle.std.specs.List.{cons_option}
use Rattle.std.proofs.lemmas.List.Elements.{All-nil, All-cons, All-head, All-tail}
use Rattle.rs_extent.specs.declared.Extent.{Extent}
use Rattle.rs_plan.proofs.FromBelow.{sha256-bytes, within_true, some_first, some_rest, some_split, not_true, not_both}
use Rattle.rs_extent.specs.Extents.{within, in_some, AreApart, AreDisjoint}
use Rattle.rs_page.specs.declared.place.PageRef.{PageRef}
use Rattle.rs_page.specs.declared.place.Place.{Place}
use Rattle.rs_page.specs.declared.place.Place.TheVariants.{Touched, Placed, Stored}
use Rattle.rs_page.specs.Format.{ItemFormat, page_bytes}
use Rattle.rs_page.specs.Pages.{Page, IsTouched, IsStored, placed_extent, stored_ref, blocks_needed, place_stored, items_of, placed_extents, stored_refs, extents_of, stored, ref_at}
use Rattle.rs_page.specs.SharedPages.{IsSublist, stored_pages}
use Rattle.rs_directory.specs.Directory.{IsLawfulRef}
use Rattle.rs_plan.proofs.Placing.{IsFitted, needed}
use Rattle.rs_plan.proofs.Sublists.{skipped}

-- the items stay
pub stored_items : {T : Type 0} (format : ItemFormat T) (pages : List (Page T)) → items_of (stored format pages) ≡ items_of pages
stored_items format [] = refl
stored_items format (page ∷ pages) = ap (λ rest. page.items ++ rest) (stored_items format pages)

-- all of them are on the disk
is_stored_one : {T : Type 0} (format : ItemFormat T) (items : List T) (place : Place) → ¬ IsTouched place → IsSome (stored_ref (place_stored format items place))
is_stored_one format items Touched h = absurd (h tt)
is_stored_one format items (Placed e) h = refl
is_stored_one format items (Stored ref) h = refl

pub all_stored : {T : Type 0} (format : ItemFormat T) (pages : List (Page T)) → All (λ page. ¬ IsTouched page.place) pages → All IsStored (stored format pages)
all_stored format [] h = All-nil IsStored
all_stored format (page ∷ pages) h =
    All-cons IsStored (record { items = page.items; place = place_stored format page.items page.place }) (stored format pages)
    (is_stored_one format page.items page.place (All-head (λ page. ¬ IsTouched page.place) page pages h))
    (all_stored format pages (All-tail (λ page. ¬ IsTouched page.place) page pages h))

pub length_stored : {T : Type 0} (format : ItemFormat T) (pages : List (Page T)) → length (stored format pages) ≡ length pages
length_stored format [] = refl
length_stored format (page ∷ pages) = omega (arith, length_stored format pages)

-- Pages that were stored before stay, and the others are given no reference.
same_one : {T : Type 0} (format : ItemFormat T) (items : List T) (place : Place) (refs refs' : List PageRef) → IsSome (stored_ref place) → refs' ≡ refs
    → cons_option (stored_ref (place_stored format items place)) refs' ≡ cons_option (stored_ref place) refs
same_one format items Touched refs refs' h same = cc
same_one format items (Placed e) refs refs' h same = cc
same_one format items (Stored ref) refs refs' h same = ap (λ l. ref ∷ l) same

pub same_refs : {T : Type 0} (format : ItemFormat T) (pages : List (Page T)) → All IsStored pages → stored_refs (stored format pages) ≡ stored_refs pages
same_refs format [] h = refl
same_refs format (page ∷ pages) h =
    same_one format page.items page.place (stored_refs pages) (stored_refs (stored format pages)) (All-head IsStored page pages h) (same_refs format pages (All-tail IsStored page pages h))

-- the references of the pages that are stored
ref_kept : {T : Type 0} (items : List T) (place : Place) (rest : List PageRef) (pages : List (Page T)) → stored_refs (stored_pages pages) ≡ rest
    → stored_refs (stored_pages (record { items = items; place = place } ∷ pages)) ≡ cons_option (stored_ref place) rest
ref_kept items Touched rest pages h = h
ref_kept items (Placed e) rest pages h = h
ref_kept items (Stored ref) rest pages h = ap (λ l. ref ∷ l) h

pub refs_kept : {T : Type 0} (pages : List (Page T)) → stored_refs (stored_pages pages) ≡ stored_refs pages
refs_kept [] = refl
refs_kept (page ∷ pages) = ref_kept page.items page.place (stored_refs pages) pages (refs_kept pages)

-- A block of the pages is one of the pages that were stored before or one that was given to a page.
some_one : {T : Type 0} (format : ItemFormat T) (items : List T) (place : Place) (before after : List PageRef) (placed : List Extent) (b : ℕ)
    → (in_some (extents_of after) b ≡ true → (in_some (extents_of before) b ≡ true) ⊎ (in_some placed b ≡ true))
    → in_some (extents_of (cons_option (stored_ref (place_stored format items place)) after)) b ≡ true
    → (in_some (extents_of (cons_option (stored_ref place) before)) b ≡ true) ⊎ (in_some (cons_option (placed_extent place) placed) b ≡ true)
some_one format items Touched before after placed b rest is = rest is
some_one format items (Placed e) before after placed b rest is = elim (some_split e (extents_of after) b is) [
  | inl here ↦ inr (some_first e placed b here)
  | inr there ↦ elim (rest there) [ inl old ↦ inl old | inr new ↦ inr (some_rest e placed b new) ]
]
some_one format items (Stored ref) before after placed b rest is = elim (some_split ref.extent (extents_of after) b is) [
  | inl here ↦ inl (some_first ref.extent (extents_of before) b here)
  | inr there ↦ elim (rest there) [ inl old ↦ inl (some_rest ref.extent (extents_of before) b old) | inr new ↦ inr new ]
]

pub stored_some : {T : Type 0} (format : ItemFormat T) (pages : List (Page T)) (b : ℕ) → in_some (extents_of (stored_refs (stored format pages))) b ≡ true
    → (in_some (extents_of (stored_refs pages)) b ≡ true) ⊎ (in_some (placed_extents pages) b ≡ true)
stored_some format [] b is = absurd (true≢false (sym is))
stored_some format (page ∷ pages) b is =
    some_one format page.items page.place (stored_refs pages) (stored_refs (stored format pages)) (placed_extents pages) b (stored_some format pages b) is

-- The blocks that were given to a page are the page's.
placed_one : {T : Type 0} (format : ItemFormat T) (items : List T) (place : Place) (after : List PageRef) (placed : List Extent) (b : ℕ)
    → (in_some placed b ≡ true → in_some (extents_of after) b ≡ true) → in_some (cons_option (placed_extent place) placed) b ≡ true
    → in_some (extents_of (cons_option (stored_ref (place_stored format items place)) after)) b ≡ true
placed_one format items Touched after placed b rest is = rest is
placed_one format items (Placed e) after placed b rest is = elim (some_split e placed b is) [
  | inl here ↦ some_first e (extents_of after) b here
  | inr there ↦ some_rest e (extents_of after) b (rest there)
]
placed_one format items (Stored ref) after placed b rest is = some_rest ref.extent (extents_of after) b (rest is)

pub placed_some : {T : Type 0} (format : ItemFormat T) (pages : List (Page T)) (b : ℕ) → in_some (placed_extents pages) b ≡ true
    → in_some (extents_of (stored_refs (stored format pages))) b ≡ true
placed_some format [] b is = is
placed_some format (page ∷ pages) b is =
    placed_one format page.items page.place (stored_refs (stored format pages)) (placed_extents pages) b (placed_some format pages b) is

-- And where those are apart, so are the pages.
apart_one : {T : Type 0} (format : ItemFormat T) (items : List T) (place : Place) (before after : List PageRef) (placed : List Extent)
    → ((b : ℕ) → in_some (extents_of after) b ≡ true → (in_some (extents_of before) b ≡ true) ⊎ (in_some placed b ≡ true))
    → (AreApart (extents_of before) → AreApart placed → AreDisjoint (in_some (extents_of before)) (in_some placed) → AreApart (extents_of after))
    → AreApart (extents_of (cons_option (stored_ref place) before)) → AreApart (cons_option (placed_extent place) placed)
    → AreDisjoint (in_some (extents_of (cons_option (stored_ref place) before))) (in_some (cons_option (placed_extent place) placed))
    → AreApart (extents_of (cons_option (stored_ref (place_stored format items place)) after))
apart_one format items Touched before after placed comes rest one other between = rest one other between
apart_one format items (Placed e) before after placed comes rest one other between = (
  λ b here. not_true (in_some (extents_of after) b) (λ is. elim (comes b is) [
    | inl old ↦ not_both (in_some (e ∷ placed) b) (some_first e placed b here) (between b old)
    | inr new ↦ not_both (in_some placed b) new (other.0 b here)
  ]),
  rest one other.1 (λ b old. not_true (in_some placed b) (λ new. not_both (in_some (e ∷ placed) b) (some_rest e placed b new) (between b old))),
)
apart_one format items (Stored ref) before after placed comes rest one other between = (
  λ b here. not_true (in_some (extents_of after) b) (λ is. elim (comes b is) [
    | inl old ↦ not_both (in_some (extents_of before) b) old (one.0 b here)
    | inr new ↦ not_both (in_some placed b) new (between b (some_first ref.extent (extents_of before) b here))
  ]),
  rest one.1 other (λ b old. between b (some_rest ref.extent (extents_of before) b old)),
)

pub stored_apart : {T : Type 0} (format : ItemFormat T) (pages : List (Page T)) → AreApart (extents_of (stored_refs pages)) → AreApart (placed_extents pages)
    → AreDisjoint (in_some (extents_of (stored_refs pages))) (in_some (placed_extents pages)) → AreApart (extents_of (stored_refs (stored format pages)))
stored_apart format [] one other between = tt
stored_apart format (page ∷ pages) one other between =
    apart_one format page.items page.place (stored_refs pages) (stored_refs (stored format pages)) (placed_extents pages)
    (stored_some format pages) (stored_apart format pages) one other between

-- The references are lawful.
lawful_ref : {T : Type 0} (format : ItemFormat T) (e : Extent) (items : List T) (n : ℕ) → n ≤ 8388608 → e.blocks ≡ blocks_needed format items
    → ((b : ℕ) → within e b ≡ true → (2 ≤ b) × (b < n)) → IsLawfulRef (ref_at format e items)
lawful_ref format e items n most fitted inside =
    let some : 1 ≤ e.blocks = omega (arith, fitted, needed format items) in
    let low = inside e.first (within_true e e.first (omega arith) (omega arith)) in
    let high = inside (e.first + e.blocks - 1) (within_true e (e.first + e.blocks - 1) (omega arith) (omega arith)) in
    let size : length (page_bytes format items) ≤ 512 * e.blocks = omega (arith, fitted) in
    record {
      first = omega (arith, low.1);
      blocks = omega (arith, low.0, high.1);
      len = omega (arith, low.0, high.1, size);
      sha256 = (sha256-bytes (page_bytes format items)).0;
    }

lawful_one : {T : Type 0} (format : ItemFormat T) (items : List T) (place : Place) (before after : List PageRef) (placed : List Extent) (n : ℕ) → n ≤ 8388608
    → IfSome (placed_extent place) (λ extent. extent.blocks ≡ blocks_needed format items)
    → (All IsLawfulRef before → ((b : ℕ) → in_some placed b ≡ true → (2 ≤ b) × (b < n)) → All IsLawfulRef after)
    → All IsLawfulRef (cons_option (stored_ref place) before) → ((b : ℕ) → in_some (cons_option (placed_extent place) placed) b ≡ true → (2 ≤ b) × (b < n))
    → All IsLawfulRef (cons_option (stored_ref (place_stored format items place)) after)
lawful_one format items Touched before after placed n most fitted rest old inside = rest old inside
lawful_one format items (Placed e) before after placed n most fitted rest old inside =
    All-cons IsLawfulRef (ref_at format e items) after (lawful_ref format e items n most fitted (λ b is. inside b (some_first e placed b is)))
    (rest old (λ b is. inside b (some_rest e placed b is)))
lawful_one format items (Stored ref) before after placed n most fitted rest old inside =
    All-cons IsLawfulRef ref after (All-head IsLawfulRef ref before old) (rest (All-tail IsLawfulRef ref before old) inside)

pub lawful_refs : {T : Type 0} (format : ItemFormat T) (pages : List (Page T)) (n : ℕ) → n ≤ 8388608 → All (IsFitted format) pages → All IsLawfulRef (stored_refs pages)
    → ((b : ℕ) → in_some (placed_extents pages) b ≡ true → (2 ≤ b) × (b < n)) → All IsLawfulRef (stored_refs (stored format pages))
lawful_refs format [] n most fitted old inside = All-nil IsLawfulRef
lawful_refs format (page ∷ pages) n most fitted old inside =
    lawful_one format page.items page.place (stored_refs pages) (stored_refs (stored format pages)) (placed_extents pages) n most
    (All-head (IsFitted format) page pages fitted) (lawful_refs format pages n most (All-tail (IsFitted format) page pages fitted)) old inside

-- The pages that were stored before are some of them.
kept_one : {T : Type 0} (format : ItemFormat T) (items : List T) (place : Place) (before after : List PageRef) → IsSublist before after
    → IsSublist (cons_option (stored_ref place) before) (cons_option (stored_ref (place_stored format items place)) after)
kept_one format items Touched before after h = h
kept_one format items (Placed e) before after h = skipped before after (ref_at format e items) h
kept_one format items (Stored ref) before after h = inl (refl, h)

pub kept_refs : {T : Type 0} (format : ItemFormat T) (pages : List (Page T)) → IsSublist (stored_refs pages) (stored_refs (stored format pages))
kept_refs format [] = tt
kept_refs format (page ∷ pages) = kept_one format page.items page.place (stored_refs pages) (stored_refs (stored format pages)) (kept_refs format pages)
