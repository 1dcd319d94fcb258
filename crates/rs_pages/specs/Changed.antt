-- One page of a list, and one item of it, changed at their places.
use Rattle.std.specs.Prelude.{ℕ, zero, suc, List, [], ◌∷◌}
use Rattle.rs_page.specs.Pages.{Page}

-- the list, with f applied to the element at i
abbrev pub changed_at : {A : Type 0} → (A → A) → ℕ → List A → List A
changed_at f i [] = []
changed_at f zero (x ∷ xs) = f x ∷ xs
changed_at f (suc i) (x ∷ xs) = x ∷ changed_at f i xs

-- the page, with f applied to its item at i; it stays where it is
abbrev pub page_filled : {T : Type 0} → (T → T) → ℕ → Page T → Page T
page_filled f i page = record { items = changed_at f i page.items; place = page.place }
