-- The pages that lists of pages share, and the blocks that their pages are given.
use Rattle.std.specs.Prelude.{◌≡◌, ◌⊎◌, List, [], ◌∷◌, filter, is_some}
use Rattle.rs_page.specs.Pages.{Page, stored_ref}

-- the first list has some elements of the second one, in their order
abbrev pub IsSublist : {A : Type 0} → List A → List A → Type 0
IsSublist [] ys = Unit {0}
IsSublist (x ∷ xs) [] = ⊥
IsSublist (x ∷ xs) (y ∷ ys) = ((x ≡ y) × IsSublist xs ys) ⊎ IsSublist (x ∷ xs) ys

-- the pages that are on the disk
abbrev pub stored_pages : {T : Type 0} → List (Page T) → List (Page T)
stored_pages pages = filter (λ page. is_some (stored_ref page.place)) pages

-- the pages that are on the disk are pages of the old list, with the same items
abbrev pub KeepsPages : {T : Type 0} → List (Page T) → List (Page T) → Type 0
KeepsPages old new = IsSublist (stored_pages new) (stored_pages old)
