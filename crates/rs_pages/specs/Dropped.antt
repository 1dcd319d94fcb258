-- The rest of a list of pages without its first items.
use Rattle.std.specs.Prelude.{◌≡◌, ◌≤◌, ◌-◌, ℕ, zero, suc, All, cond, nat_le, List, [], ◌∷◌, ◌++◌, length, map, drop}
use Rattle.rs_page.specs.Pages.{Page, items_of, placed_extents}
use Rattle.rs_page.specs.SharedPages.{KeepsPages}
use Rattle.rs_pages.specs.Rule.{cut_into_pieces_of, touched, HaveItems}
use Rattle.rs_pages.specs.Laws.{IsFreshPage}

-- cut from the front into pieces of 64, of which the last has the rest
abbrev pub cut_full : {T : Type 0} → List T → List (List T)
cut_full items = cut_into_pieces_of 64 items

-- the touched pages of 64 items that items are cut into, of which the last has the rest; no items make no page
abbrev pub full_pages : {T : Type 0} → List T → List (Page T)
full_pages items = map touched (cut_full items)

-- the pages without their first n items: a page whose items are all among them goes, the other items of the page in
-- which the cut falls are cut into full pages, and all pages after it stay
abbrev pub dropped_front : {T : Type 0} → ℕ → List (Page T) → List (Page T)
dropped_front n [] = []
dropped_front zero (page ∷ pages) = page ∷ pages
dropped_front (suc n) (page ∷ pages) =
    cond (nat_le (length page.items) (suc n)) (dropped_front (suc n - length page.items) pages) (full_pages (drop (suc n) page.items) ++ pages)

-- the pages that go where the first n items go: all pages that have one of these items
abbrev pub front_pages : {T : Type 0} → ℕ → List (Page T) → List (Page T)
front_pages n [] = []
front_pages zero (page ∷ pages) = []
front_pages (suc n) (page ∷ pages) = page ∷ front_pages (suc n - length page.items) pages

-- The pages that have one of the first n items go, and touched pages of 1 to 64 items come in their place; all after
-- them stay.
pub record ReplacesFront {T : Type 0} (n : ℕ) (old new : List (Page T)) : Type 0 where
  pub made : List (Page T)
  pub after : List (Page T)
  pub was : old ≡ front_pages n old ++ after
  pub is : new ≡ made ++ after
  pub fresh : All IsFreshPage made

-- Pages at the front of the old list go, whose items are all among its first n. At most one page after them goes too,
-- and its items after the first n of the list come in its place, in touched pages of 1 to 64 items. All other pages
-- stay as they are.
pub record TouchesFew {T : Type 0} (n : ℕ) (old new : List (Page T)) : Type 0 where
  pub gone : List (Page T)
  pub cut : List (Page T)
  pub made : List (Page T)
  pub after : List (Page T)
  pub was : old ≡ gone ++ (cut ++ after)
  pub is : new ≡ made ++ after
  pub whole : length (items_of gone) ≤ n
  pub one : length cut ≤ 1
  pub left : items_of made ≡ drop (n - length (items_of gone)) (items_of cut)
  pub fresh : All IsFreshPage made

-- Through all pages, the first items are dropped as from one list.
abbrev pub DropsAsOne : Type 0 → Type 0
DropsAsOne T = (n : ℕ) (pages : List (Page T)) → items_of (dropped_front n pages) ≡ drop n (items_of pages)

-- The pages on the disk are kept, and no page is given blocks.
abbrev pub DroppingKeeps : Type 0 → Type 0
DroppingKeeps T = (n : ℕ) (pages : List (Page T))
    → KeepsPages pages (dropped_front n pages) × (placed_extents pages ≡ [] → placed_extents (dropped_front n pages) ≡ [])

-- Where no page is empty, no page is left empty.
abbrev pub DroppingHasItems : Type 0 → Type 0
DroppingHasItems T = (n : ℕ) (pages : List (Page T)) → HaveItems pages → HaveItems (dropped_front n pages)

-- The pages that have one of the first items go, and no other.
abbrev pub DroppingReplacesFront : Type 0 → Type 0
DroppingReplacesFront T = (n : ℕ) (pages : List (Page T)) → ReplacesFront n pages (dropped_front n pages)

-- At most one page is made into touched ones.
abbrev pub DroppingTouchesFew : Type 0 → Type 0
DroppingTouchesFew T = (n : ℕ) (pages : List (Page T)) → TouchesFew n pages (dropped_front n pages)
