-- The page rule: where an item goes in a list of pages, and which pages are touched.
use Rattle.std.specs.Prelude.{ℕ, zero, suc, ◌≤◌, ◌-◌, All, Bool, false, cond, not, ◌||◌, nat_lt, nat_le, is_some, List, [], ◌∷◌, ◌++◌, length, map, take, drop}
use Rattle.std.specs.Ordering.{is_lt}
use Rattle.rs_model.specs.Names.{by_bytes, value_of}
use Rattle.rs_page.specs.declared.place.Place.TheVariants.{Touched}
use Rattle.rs_page.specs.Pages.{Page}
use Rattle.rs_pages.specs.Items.{keyed, put_in, taken_out}

-- cut from the front into pieces of one length, at most n times, until at most 64 items are left
abbrev pub cut_up_to : {T : Type 0} → ℕ → ℕ → List T → List (List T)
cut_up_to piece zero items = items ∷ []
cut_up_to piece (suc n) items = cond (nat_le (length items) 64) (items ∷ []) (take piece items ∷ cut_up_to piece n (drop piece items))

-- cut from the front into pieces of one length, until at most 64 items are left, which are the last piece; no items
-- make no piece
abbrev pub cut_into_pieces_of : {T : Type 0} → ℕ → List T → List (List T)
cut_into_pieces_of piece [] = []
cut_into_pieces_of piece (x ∷ xs) = cut_up_to piece (length (x ∷ xs)) (x ∷ xs)

-- cut from the front into pieces of 32, until at most 64 items are left
abbrev pub cut_front : {T : Type 0} → List T → List (List T)
cut_front items = cut_into_pieces_of 32 items

-- a page of these items that has no blocks yet
abbrev pub touched : {T : Type 0} → List T → Page T
touched items = record { items = items; place = Touched }

-- the touched pages that items are cut into; no items make no page
abbrev pub touched_pages : {T : Type 0} → List T → List (Page T)
touched_pages items = map touched (cut_front items)

-- the items of the page at i
abbrev pub items_at : {T : Type 0} → ℕ → List (Page T) → List T
items_at i [] = []
items_at zero (page ∷ pages) = page.items
items_at (suc i) (page ∷ pages) = items_at i pages

-- the pages, with the pages that these items are cut into in place of the page at i
abbrev pub with_page : {T : Type 0} → ℕ → List T → List (Page T) → List (Page T)
with_page i items [] = touched_pages items
with_page zero items (page ∷ pages) = touched_pages items ++ pages
with_page (suc i) items (page ∷ pages) = page ∷ with_page i items pages

-- the first name is not above this one
abbrev pub begins_by : {T : Type 0} → (T → List ℕ) → List ℕ → List T → Bool
begins_by name n [] = false
begins_by name n (x ∷ xs) = not (is_lt (by_bytes n (name x)))

-- the first name of some page is not above this one
abbrev pub some_begins_by : {T : Type 0} → (T → List ℕ) → List ℕ → List (Page T) → Bool
some_begins_by name n [] = false
some_begins_by name n (page ∷ pages) = begins_by name n page.items || some_begins_by name n pages

-- where a name goes: the last page whose first name is not above it, or else the first page
abbrev pub home : {T : Type 0} → (T → List ℕ) → List ℕ → List (Page T) → ℕ
home name n [] = 0
home name n (page ∷ pages) = cond (some_begins_by name n pages) (suc (home name n pages)) 0

-- the pages with an item bound to its name
abbrev pub bound_in : {T : Type 0} → (T → List ℕ) → T → List (Page T) → List (Page T)
bound_in name t pages = let i = home name (name t) pages in with_page i (put_in name t (items_at i pages)) pages

-- the pages without the item of a name; where no item has it, no page is touched
abbrev pub unbound_in : {T : Type 0} → (T → List ℕ) → List ℕ → List (Page T) → List (Page T)
unbound_in name n pages =
    let i = home name n pages in cond (is_some (value_of n (keyed name (items_at i pages)))) (with_page i (taken_out name n (items_at i pages)) pages) pages

-- the pages with an item at the end: in the last page where that has fewer than 64 items, else in a new page
abbrev pub appended_to : {T : Type 0} → T → List (Page T) → List (Page T)
appended_to t pages =
    let last = length pages - 1 in
    cond (nat_lt (length (items_at last pages)) 64) (with_page last (items_at last pages ++ t ∷ []) pages) (pages ++ touched_pages (t ∷ []))

-- no page is empty
abbrev pub HaveItems : {T : Type 0} → List (Page T) → Type 0
HaveItems pages = All (λ page. 1 ≤ length page.items) pages
