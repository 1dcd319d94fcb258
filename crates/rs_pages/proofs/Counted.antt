-- The item at a place among all items, by the counts before every page.
use Rattle.std.proofs.Common.{◌≡◌, ℕ, zero, suc, ◌+◌, ◌-◌, ◌<◌, ◌≤◌, List, [], ◌∷◌, ◌++◌, length, get_or, refl, sym, ap, ◌∙◌, subst, arith, true, false, leb}
use Rattle.std.specs.Prelude.{slice_get}
use Rattle.std.specs.List.{AllWithin}
use Rattle.std.specs.List.Sorted.{IsNonDecreasingBy}
use Rattle.std.proofs.lemmas.List.{length-append}
use Rattle.std.proofs.lemmas.Bool.Decides.{nat_tests}
use Rattle.rs_page.specs.Pages.{Page, items_of}
use Rattle.rs_pages.specs.Rule.{items_at}
use Rattle.rs_pages.specs.Starts.{starts_of}

front : {A : Type 0} (xs ys : List A) (i : ℕ) → i < length xs → slice_get (xs ++ ys) i ≡ slice_get xs i
front [] ys i h = absurd (omega arith)
front (x ∷ xs) ys zero h = refl
front (x ∷ xs) ys (suc i) h = front xs ys i (omega arith)

sums : (m i : ℕ) → suc m + i ≡ suc (m + i)
sums m i = omega arith

back : {A : Type 0} (xs ys : List A) (i : ℕ) → slice_get (xs ++ ys) (length xs + i) ≡ slice_get ys i
back [] ys i = ap (slice_get ys) (omega arith)
back (x ∷ xs) ys i = ap (slice_get (x ∷ (xs ++ ys))) (sums (length xs) i) ∙ back xs ys i

never : (i : ℕ) → leb 0 i ≡ false → ⊥
never i h = let low : i < 0 = grind (arith, nat_tests) in omega arith

module _ {T : Type 0} where
  pub length-starts : (n : ℕ) (pages : List (Page T)) → length (starts_of n pages) ≡ length pages
  length-starts n [] = refl
  length-starts n (page ∷ pages) = ap suc (length-starts (n + length page.items) pages)

  from : (n : ℕ) (pages : List (Page T)) (k d : ℕ) → k < length pages → n ≤ get_or (starts_of n pages) k d
  from n [] k d h = absurd (omega arith)
  from n (page ∷ pages) zero d h = omega arith
  from n (page ∷ pages) (suc k) d h = let next = from (n + length page.items) pages k d (omega arith) in omega arith

  rises : (n : ℕ) (pages : List (Page T)) (i j d : ℕ) → i ≤ j → j < length pages → get_or (starts_of n pages) i d ≤ get_or (starts_of n pages) j d
  rises n [] i j d order inside = absurd (omega arith)
  rises n (page ∷ pages) zero j d order inside = from n (page ∷ pages) j d inside
  rises n (page ∷ pages) (suc i) zero d order inside = absurd (omega arith)
  rises n (page ∷ pages) (suc i) (suc j) d order inside = rises (n + length page.items) pages i j d (omega arith) (omega arith)

  pub starts_rise : (n : ℕ) (pages : List (Page T)) → IsNonDecreasingBy (λ start. start) (starts_of n pages)
  starts_rise n pages = λ i j d order inside. rises n pages i j d order (subst (λ (m : ℕ). j < m) (length-starts n pages) inside)

  -- the number of pages that begin at or before a place: at least one, where there is an item
  begin_one : (pages : List (Page T)) (k i : ℕ) → i < length (items_of pages) → AllWithin (λ start. leb start i ≡ false) (starts_of 0 pages) k (length (starts_of 0 pages)) → 1 ≤ k
  begin_one [] k i h above = absurd (omega arith)
  begin_one (page ∷ pages) zero i h above = absurd (never i (above 0 0 (omega arith) (omega arith)))
  begin_one (page ∷ pages) (suc k) i h above = omega arith

  in_page : (n : ℕ) (page : Page T) (pages : List (Page T)) (i d : ℕ) → n ≤ i → (1 < length (page ∷ pages) → i < get_or (starts_of n (page ∷ pages)) 1 d) → i < n + length (items_of (page ∷ pages)) → i - n < length page.items
  in_page n page [] i d low next high = let same = length-append page.items [] in omega (arith, same)
  in_page n page (p ∷ pages) i d low next high = let below : i < n + length page.items = next (omega arith) in omega arith

  -- the page k of the place i
  pub at_page : (n : ℕ) (pages : List (Page T)) (k i d : ℕ) → k < length pages → get_or (starts_of n pages) k d ≤ i → (suc k < length pages → i < get_or (starts_of n pages) (suc k) d)
      → i < n + length (items_of pages) → slice_get (items_of pages) (i - n) ≡ slice_get (items_at k pages) (i - get_or (starts_of n pages) k d)
  at_page n [] k i d inside low next high = absurd (omega arith)
  at_page n (page ∷ pages) zero i d inside low next high = front page.items (items_of pages) (i - n) (in_page n page pages i d low next high)
  at_page n (page ∷ pages) (suc k) i d inside low next high =
      let m : ℕ = n + length page.items in
      let least : m ≤ get_or (starts_of m pages) k d = from m pages k d (omega arith) in
      let split : i - n ≡ length page.items + (i - m) = omega arith in
      ap (slice_get (page.items ++ items_of pages)) split
      ∙ (back page.items (items_of pages) (i - m)
      ∙ at_page m pages k i d (omega arith) low (λ h. next (omega arith)) (let sizes = length-append page.items (items_of pages) in omega (arith, sizes)))

no_less : (i : ℕ) → i ≡ i - 0
no_less i = omega arith

at_most : (a b : ℕ) → leb a b ≡ true → a ≤ b
at_most a b h = grind (arith, nat_tests)

more : (a b : ℕ) → leb a b ≡ false → b < a
more a b h = grind (arith, nat_tests)

-- As many pages begin at or before a place that has an item, and all others after it.
pub record Begin {T : Type 0} (pages : List (Page T)) (i begun : ℕ) : Type 0 where
  pub inside : i < length (items_of pages)
  pub below : AllWithin (λ start. leb start i ≡ true) (starts_of 0 pages) 0 begun
  pub above : AllWithin (λ start. leb start i ≡ false) (starts_of 0 pages) begun (length (starts_of 0 pages))

-- the item at a place is in the page k, of which the first item is at start
pub record IsPageOf {T : Type 0} (pages : List (Page T)) (i k start : ℕ) : Type 0 where
  pub low : start ≤ i
  pub item : slice_get (items_of pages) i ≡ slice_get (items_at k pages) (i - start)

module _ {T : Type 0} {pages : List (Page T)} {i begun : ℕ} (at : Begin pages i begun) where
  pub some_start : 1 ≤ begun
  some_start = begin_one pages begun i at.inside at.above

  pub page_of : begun ≤ length pages → (d : ℕ) → IsPageOf pages i (begun - 1) (get_or (starts_of 0 pages) (begun - 1) d)
  page_of most d =
      let some = some_start in
      let sizes = length-starts 0 pages in
      let start = get_or (starts_of 0 pages) (begun - 1) d in
      let low : start ≤ i = at_most start i (at.below (begun - 1) d (omega arith) (omega arith)) in
      let same : suc (begun - 1) ≡ begun = omega arith in
      record {
        low = low;
        item =
            ap (slice_get (items_of pages)) (no_less i)
            ∙ at_page 0 pages (begun - 1) i d (omega arith) low
            (λ h. more (get_or (starts_of 0 pages) (suc (begun - 1)) d) i (subst (λ (k : ℕ). leb (get_or (starts_of 0 pages) k d) i ≡ false) (sym same) (at.above begun d (omega arith) (omega arith))))
            (let inside = at.inside in omega (arith, inside));
      }
