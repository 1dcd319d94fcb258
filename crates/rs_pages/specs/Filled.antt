-- Items that get new content at their places, in pages that are not on the disk.
use Rattle.std.specs.Prelude.{◌≡◌, ◌⊎◌, ℕ, List, [], ◌∷◌, map, None, IsSome}
use Rattle.rs_model.specs.Names.{by_bytes, by_order, value_of}
use Rattle.rs_page.specs.Pages.{Page, stored_ref}
use Rattle.rs_pages.specs.Items.{keyed}

-- the items, with f applied to the item of this name, if it is there
abbrev pub items_filled : {T : Type 0} → (T → List ℕ) → (T → T) → List ℕ → List T → List T
items_filled name f n items = map (λ t. by_order (by_bytes n (name t)) t (f t) t) items

-- the same in every page, which stays where it is
abbrev pub named_filled : {T : Type 0} → (T → List ℕ) → (T → T) → List ℕ → List (Page T) → List (Page T)
named_filled name f n pages = map (λ page. record { items = items_filled name f n page.items; place = page.place }) pages

-- the items, with f applied to the last one, if there is one
abbrev pub end_filled : {T : Type 0} → (T → T) → List T → List T
end_filled f [] = []
end_filled f (last ∷ []) = f last ∷ []
end_filled f (t ∷ next ∷ items) = t ∷ end_filled f (next ∷ items)

-- the same in the last page, and all pages stay where they are
abbrev pub last_filled : {T : Type 0} → (T → T) → List (Page T) → List (Page T)
last_filled f [] = []
last_filled f (page ∷ []) = record { items = end_filled f page.items; place = page.place } ∷ []
last_filled f (page ∷ next ∷ pages) = page ∷ last_filled f (next ∷ pages)

-- a page is not on the disk
abbrev pub IsUnstored : {T : Type 0} → Page T → Type 0
IsUnstored page = stored_ref page.place ≡ None

-- a page that is not on the disk has this name
abbrev pub StandsUnstored : {T : Type 0} → (T → List ℕ) → List ℕ → List (Page T) → Type 0
StandsUnstored name n [] = ⊥
StandsUnstored name n (page ∷ pages) = (IsSome (value_of n (keyed name page.items)) × IsUnstored page) ⊎ StandsUnstored name n pages

-- the last page is not on the disk
abbrev pub EndsUnstored : {T : Type 0} → List (Page T) → Type 0
EndsUnstored [] = ⊥
EndsUnstored (page ∷ []) = IsUnstored page
EndsUnstored (page ∷ next ∷ pages) = EndsUnstored (next ∷ pages)
