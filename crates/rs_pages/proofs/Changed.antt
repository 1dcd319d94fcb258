-- Pages with one item filled.
use Rattle.std.proofs.Common.{◌≡◌, ℕ, zero, suc, ◌+◌, ◌<◌, ◌≤◌, List, [], ◌∷◌, length, get_or, set, map, refl, sym, ap, ap₂, ◌∙◌, subst, arith, Option, Some, None}
use Rattle.std.specs.Prelude.{slice_get, slice_set, IfSome}
use Rattle.std.proofs.lemmas.List.{length-append}
use Rattle.std.proofs.lemmas.List.Elements.{All-cons, All-head, All-tail}
use Rattle.rs_page.specs.Pages.{Page, stored_ref, items_of}
use Rattle.rs_pages.specs.Changed.{changed_at, page_filled}
use Rattle.rs_pages.specs.Filled.{IsUnstored}
use Rattle.rs_pages.specs.Rule.{items_at, HaveItems}
use Rattle.rs_pages.specs.Starts.{AreCounted, starts_of}

pub inside_pages : {T : Type 0} (k i : ℕ) (pages : List (Page T)) → i < length (items_at k pages) → k < length pages
inside_pages k i [] h = absurd (omega arith)
inside_pages zero i (page ∷ pages) h = omega arith
inside_pages (suc k) i (page ∷ pages) h = let next = inside_pages k i pages h in omega arith

inside_page : {T : Type 0} (k i : ℕ) (pages : List (Page T)) (d : Page T) → i < length (items_at k pages) → i < length (get_or pages k d).items
inside_page k i [] d h = absurd (omega arith)
inside_page zero i (page ∷ pages) d h = h
inside_page (suc k) i (page ∷ pages) d h = inside_page k i pages d h

not_on_disk : {T : Type 0} (k : ℕ) (pages : List (Page T)) (d : Page T) → k < length pages → IfSome (slice_get pages k) IsUnstored → stored_ref (get_or pages k d).place ≡ None
not_on_disk k [] d inside none = absurd (omega arith)
not_on_disk zero (page ∷ pages) d inside none = none
not_on_disk (suc k) (page ∷ pages) d inside none = not_on_disk k pages d (omega arith) none

set_later : {A : Type 0} (f : A → A) (i : ℕ) (x : A) (xs : List A) (o : Option A) → IfSome o (λ y. slice_set xs i (f y) ≡ changed_at f i xs)
    → IfSome o (λ y. x ∷ slice_set xs i (f y) ≡ x ∷ changed_at f i xs)
set_later f i x xs None h = tt
set_later f i x xs (Some y) h = ap (λ rest. x ∷ rest) h

set_changed : {A : Type 0} (f : A → A) (i : ℕ) (xs : List A) → IfSome (slice_get xs i) (λ x. slice_set xs i (f x) ≡ changed_at f i xs)
set_changed f i [] = tt
set_changed f zero (x ∷ xs) = refl
set_changed f (suc i) (x ∷ xs) = set_later f i x xs (slice_get xs i) (set_changed f i xs)

there : {A : Type 0} (xs : List A) (j : ℕ) → j < length xs → slice_get xs j ≡ None → ⊥
there [] j h e = omega arith
there (x ∷ xs) zero h e = cc
there (x ∷ xs) (suc j) h e = there xs j (omega arith) e

both_by : {T : Type 0} (f : T → T) (i : ℕ) (items new : List T) (o : Option T) → o ≡ slice_get items i → i < length items → IfSome o (λ item. new ≡ slice_set items i (f item))
    → IfSome o (λ item. slice_set items i (f item) ≡ changed_at f i items) → new ≡ changed_at f i items
both_by f i items new None is inside a b = absurd (there items i inside (sym is))
both_by f i items new (Some item) is inside a b = a ∙ b

-- the page that was filled
filled_is : {T : Type 0} (f : T → T) (i : ℕ) (old new : Page T) → i < length old.items → IfSome (slice_get old.items i) (λ item. new.items ≡ slice_set old.items i (f item))
    → new.place ≡ old.place → new ≡ page_filled f i old
filled_is f i old new inside items place =
    ap₂ (λ xs p. record { items = xs; place = p }) (both_by f i old.items new.items (slice_get old.items i) refl inside items (set_changed f i old.items)) place

-- the list with it
set_is : {A : Type 0} (f : A → A) (k : ℕ) (xs : List A) (d y : A) → k < length xs → y ≡ f (get_or xs k d) → set xs k y ≡ changed_at f k xs
set_is f k [] d y inside is = absurd (omega arith)
set_is f zero (x ∷ xs) d y inside is = ap (λ z. z ∷ xs) is
set_is f (suc k) (x ∷ xs) d y inside is = ap (λ rest. x ∷ rest) (set_is f k xs d y (omega arith) is)

length_changed : {A : Type 0} (f : A → A) (i : ℕ) (xs : List A) → length (changed_at f i xs) ≡ length xs
length_changed f i [] = refl
length_changed f zero (x ∷ xs) = refl
length_changed f (suc i) (x ∷ xs) = ap suc (length_changed f i xs)

module _ {T : Type 0} (f : T → T) (i : ℕ) where
  pub places_stay : (k : ℕ) (pages : List (Page T)) → map (λ p. p.place) (changed_at (page_filled f i) k pages) ≡ map (λ p. p.place) pages
  places_stay k [] = refl
  places_stay zero (page ∷ pages) = refl
  places_stay (suc k) (page ∷ pages) = ap (λ rest. page.place ∷ rest) (places_stay k pages)

  pub lengths_stay : (k : ℕ) (pages : List (Page T)) → map (λ p. length p.items) (changed_at (page_filled f i) k pages) ≡ map (λ p. length p.items) pages
  lengths_stay k [] = refl
  lengths_stay zero (page ∷ pages) = ap (λ n. n ∷ map (λ p. length p.items) pages) (length_changed f i page.items)
  lengths_stay (suc k) (page ∷ pages) = ap (λ rest. length page.items ∷ rest) (lengths_stay k pages)

-- The page at k of a list has an item at i. To callers the list is `old`.
pub record HasItemAt {T : Type 0} (pages old : List (Page T)) (k i : ℕ) (page : Page T) : Type 0 where
  pub seen : pages ≡ old
  pub within : i < length (items_at k old)
  pub found : page ≡ get_or pages k page

module _ {T : Type 0} {pages old : List (Page T)} {k i : ℕ} {page : Page T} (at : HasItemAt pages old k i page) where
  inside_list : k < length pages
  inside_list = inside_pages k i pages (subst (λ (ps : List (Page T)). i < length (items_at k ps)) (sym at.seen) at.within)

  pub has_item : i < length page.items
  has_item =
      subst (λ (it : Page T). i < length it.items) (sym at.found)
      (inside_page k i pages page (subst (λ (ps : List (Page T)). i < length (items_at k ps)) (sym at.seen) at.within))

  pub is_unstored : IfSome (slice_get old k) IsUnstored → stored_ref page.place ≡ None
  is_unstored none =
      subst (λ (it : Page T). stored_ref it.place ≡ None) (sym at.found)
      (not_on_disk k pages page inside_list (subst (λ (ps : List (Page T)). IfSome (slice_get ps k) IsUnstored) (sym at.seen) none))

  -- the list, once that item was filled
  pub list_filled : (f : T → T) (new : Page T) → IfSome (slice_get page.items i) (λ item. new.items ≡ slice_set page.items i (f item)) → new.place ≡ page.place
      → set pages k new ≡ changed_at (page_filled f i) k pages
  list_filled f new items place = set_is (page_filled f i) k pages page new inside_list (filled_is f i page new has_item items place ∙ ap (page_filled f i) at.found)

-- pages of the same lengths are counted the same
module _ {T : Type 0} where
  items_as_long : (new old : List (Page T)) → map (λ p. length p.items) new ≡ map (λ p. length p.items) old → length (items_of new) ≡ length (items_of old)
  items_as_long [] [] h = refl
  items_as_long [] (o ∷ old) h = cc
  items_as_long (n ∷ new) [] h = cc
  items_as_long (n ∷ new) (o ∷ old) h =
      let first : length n.items ≡ length o.items = cc in
      let rest : map (λ p. length p.items) new ≡ map (λ p. length p.items) old = cc in
      omega (arith, first, items_as_long new old rest, length-append n.items (items_of new), length-append o.items (items_of old))

  starts_same : (m : ℕ) (new old : List (Page T)) → map (λ p. length p.items) new ≡ map (λ p. length p.items) old → starts_of m new ≡ starts_of m old
  starts_same m [] [] h = refl
  starts_same m [] (o ∷ old) h = cc
  starts_same m (n ∷ new) [] h = cc
  starts_same m (n ∷ new) (o ∷ old) h =
      let first : length n.items ≡ length o.items = cc in
      let rest : map (λ p. length p.items) new ≡ map (λ p. length p.items) old = cc in
      ap (λ size. m ∷ starts_of (m + size) new) first ∙ ap (λ xs. m ∷ xs) (starts_same (m + length o.items) new old rest)

  have_same : (new old : List (Page T)) → map (λ p. length p.items) new ≡ map (λ p. length p.items) old → HaveItems old → HaveItems new
  have_same [] [] h have = have
  have_same [] (o ∷ old) h have = cc
  have_same (n ∷ new) [] h have = cc
  have_same (n ∷ new) (o ∷ old) h have =
      let P : Page T → Type 0 = λ it. 1 ≤ length it.items in
      let first : length n.items ≡ length o.items = cc in
      let rest : map (λ p. length p.items) new ≡ map (λ p. length p.items) old = cc in
      let some : 1 ≤ length o.items = All-head P o old have in
      All-cons P n new (omega (arith, first, some)) (have_same new old rest (All-tail P o old have))

  pub counted_same : (new old : List (Page T)) (starts : List ℕ) (len : ℕ) → map (λ p. length p.items) new ≡ map (λ p. length p.items) old → AreCounted old starts len → AreCounted new starts len
  counted_same new old starts len h counted =
      record { some = have_same new old h counted.some; starts = counted.starts ∙ sym (starts_same 0 new old h); len = counted.len ∙ sym (items_as_long new old h) }
