-- The places of the first items of the pages among all items.
use Rattle.std.specs.Prelude.{◌≡◌, ℕ, ◌+◌, List, [], ◌∷◌, length}
use Rattle.rs_page.specs.Pages.{Page, items_of}
use Rattle.rs_pages.specs.Rule.{HaveItems}

-- the number of items before every page, where n are before the first
abbrev pub starts_of : {T : Type 0} → ℕ → List (Page T) → List ℕ
starts_of n [] = []
starts_of n (page ∷ pages) = n ∷ starts_of (n + length page.items) pages

-- The invariant of a list: no page is empty, and it has counted the items before every page and in all.
pub record AreCounted {T : Type 0} (pages : List (Page T)) (counts : List ℕ) (count : ℕ) : Type 0 where
  pub some : HaveItems pages
  pub starts : counts ≡ starts_of 0 pages
  pub len : count ≡ length (items_of pages)
