-- The item of a name, and the last item, filled at their places.
use Rattle.std.proofs.Common.{◌≡◌, ℕ, zero, suc, ◌<◌, ◌≤◌, List, [], ◌∷◌, ◌++◌, length, Bool, true, false, cond, refl, sym, ap, ap₂, ◌∙◌, subst, inl, inr, arith, Option, Some, None}
use Rattle.std.specs.Prelude.{IsTrue, IsSome, IfSome, slice_get}
use Rattle.std.specs.Ordering.{is_lt}
use Rattle.std.specs.Cmp.{first_so, second_so}
use Rattle.std.specs.Cmp.Lexicographic.{nat_list_cmp_total}
use Rattle.std.specs.declared.cmp.Ordering.{Ordering}
use Rattle.std.specs.declared.cmp.Ordering.TheVariants.{Less, Equal, Greater}
use Rattle.std.proofs.lemmas.Bool.{and_from}
use Rattle.std.proofs.lemmas.List.Elements.{All-head, All-tail}
use Rattle.rs_model.specs.Names.{by_bytes, by_order, value_of, is_above, is_ordered, IsFoundAt}
use Rattle.rs_pages.proofs.FromBelow.{is_less, swapped, tail_ordered}
use Rattle.rs_page.specs.Pages.{Page, items_of}
use Rattle.rs_pages.specs.Items.{keyed}
use Rattle.rs_pages.specs.Changed.{changed_at, page_filled}
use Rattle.rs_pages.specs.Filled.{items_filled, named_filled, end_filled, last_filled, IsUnstored, StandsUnstored, EndsUnstored}
use Rattle.rs_pages.specs.Rule.{HaveItems, items_at, some_begins_by, home}
use Rattle.rs_pages.proofs.InOrder.{is_past, is_before}
use Rattle.rs_pages.proofs.Home.{above_lower, above_rest, ordered_rest, past_items, before_items}
use Rattle.rs_pages.proofs.AtHome.{above_front, ordered_front}

pub not_both : {A : Type 0} (o : Option A) → o ≡ None → IsSome o → ⊥
not_both None h some = cc
not_both (Some a) h some = cc

module _ {T : Type 0} (name : T → List ℕ) where
  -- a name that is below the first of names in order is below all of them
  all_above : (n : List ℕ) (xs : List T) → is_before name n xs → IsTrue (is_ordered (keyed name xs)) → IsTrue (is_above n (keyed name xs))
  all_above n [] before h = refl
  all_above n (x ∷ xs) before h = and_from _ _ (ap is_lt before) h

  above_tail : (n : List ℕ) (x : T) (xs : List T) → IsTrue (is_above n (keyed name (x ∷ xs))) → IsTrue (is_above n (keyed name xs))
  above_tail n x xs h =
      above_lower n (name x) (keyed name xs) (is_less (by_bytes n (name x)) (first_so _ _ h)) (second_so (is_lt (by_bytes n (name x))) _ h)

  -- a name that is above or below all others is not among them
  past_none : (n : List ℕ) (xs : List T) → is_past name n xs → value_of n (keyed name xs) ≡ None
  past_none n [] past = refl
  past_none n (x ∷ xs) past = ap (λ o. by_order o None (Some x) (value_of n (keyed name xs))) past.0 ∙ past_none n xs past.1

  above_none : (n : List ℕ) (xs : List T) → IsTrue (is_above n (keyed name xs)) → value_of n (keyed name xs) ≡ None
  above_none n [] h = refl
  above_none n (x ∷ xs) h = ap (λ o. by_order o None (Some x) (value_of n (keyed name xs))) (is_less (by_bytes n (name x)) (first_so _ _ h))

  none_stand : (n : List ℕ) (pages : List (Page T)) → IsTrue (is_above n (keyed name (items_of pages))) → StandsUnstored name n pages → ⊥
  none_stand n [] h stands = stands
  none_stand n (page ∷ pages) h stands =
      elim stands [
        | inl here ↦ (let none = above_none n page.items (above_front name n page.items (items_of pages) h) in let some : IsSome (value_of n (keyed name page.items)) = here.0 in cc)
        | inr later ↦ none_stand n pages (above_rest name n page.items (items_of pages) h) later
      ]

  -- The page where the name goes has it, and is not on the disk.
  abbrev pub IsHome : List ℕ → ℕ → List (Page T) → Type 0
  IsHome n k pages = IsSome (value_of n (keyed name (items_at k pages))) × IfSome (slice_get pages k) IsUnstored

  stands_by : (n : List ℕ) (page : Page T) (pages : List (Page T)) (b : Bool) → some_begins_by name n pages ≡ b → IsTrue (is_ordered (keyed name (page.items ++ items_of pages)))
      → StandsUnstored name n (page ∷ pages) → (StandsUnstored name n pages → IsHome n (home name n pages) pages) → IsHome n (cond b (suc (home name n pages)) 0) (page ∷ pages)
  stands_by n page pages true is h stands next =
      elim stands [
        | inl here ↦ (let none = past_none n page.items (past_items name n page.items pages h is) in let some : IsSome (value_of n (keyed name page.items)) = here.0 in cc)
        | inr later ↦ next later
      ]
  stands_by n page pages false is h stands next =
      elim stands [
        | inl here ↦ here
        | inr later ↦ absurd (none_stand n pages (all_above n (items_of pages) (before_items name n pages is) (ordered_rest name page.items (items_of pages) h)) later)
      ]

  pub stands_at_home : (n : List ℕ) (pages : List (Page T)) → IsTrue (is_ordered (keyed name (items_of pages))) → StandsUnstored name n pages → IsHome n (home name n pages) pages
  stands_at_home n [] h stands = absurd stands
  stands_at_home n (page ∷ pages) h stands =
      stands_by n page pages (some_begins_by name n pages) refl h stands (stands_at_home n pages (ordered_rest name page.items (items_of pages) h))

  -- the item found under a name has that name
  named_by : (n : List ℕ) (x t : T) (o : Ordering) (v : Option T) → by_bytes n (name x) ≡ o → (v ≡ Some t → by_bytes n (name t) ≡ Equal) → by_order o None (Some x) v ≡ Some t → by_bytes n (name t) ≡ Equal
  named_by n x t Less v is next h = cc
  named_by n x t Equal v is next h = let same : x ≡ t = cc in subst (λ (y : T). by_bytes n (name y) ≡ Equal) same is
  named_by n x t Greater v is next h = next h

  named_so : (n : List ℕ) (xs : List T) (t : T) → value_of n (keyed name xs) ≡ Some t → by_bytes n (name t) ≡ Equal
  named_so n [] t h = cc
  named_so n (x ∷ xs) t h = named_by n x t (by_bytes n (name x)) (value_of n (keyed name xs)) refl (named_so n xs t) h

  keyed_item : (xs : List T) (i : ℕ) (e : List ℕ × T) → slice_get (keyed name xs) i ≡ Some e → slice_get xs i ≡ Some e.1
  keyed_item [] i e h = cc
  keyed_item (x ∷ xs) zero e h = let same : (name x, x) ≡ e = cc in ap (λ p. Some p.1) same
  keyed_item (x ∷ xs) (suc i) e h = keyed_item xs i e h

  -- every name in a list that rises above a name is above it
  above_at : (lower : List ℕ) (xs : List T) (i : ℕ) (t : T) → IsTrue (is_above lower (keyed name xs)) → slice_get xs i ≡ Some t → by_bytes lower (name t) ≡ Less
  above_at lower [] i t h at = cc
  above_at lower (x ∷ xs) zero t h at =
      let same : x ≡ t = cc in subst (λ (y : T). by_bytes lower (name y) ≡ Less) same (is_less (by_bytes lower (name x)) (first_so _ _ h))
  above_at lower (x ∷ xs) (suc i) t h at = above_at lower xs i t (above_tail lower x xs h) at

  module _ (f : T → T) where
    -- items of higher and of lower names stay as they are
    filled_above : (n : List ℕ) (xs : List T) → IsTrue (is_above n (keyed name xs)) → items_filled name f n xs ≡ xs
    filled_above n [] h = refl
    filled_above n (x ∷ xs) h =
        ap (λ o. by_order o x (f x) x ∷ items_filled name f n xs) (is_less (by_bytes n (name x)) (first_so _ _ h)) ∙ ap (λ rest. x ∷ rest) (filled_above n xs (above_tail n x xs h))

    filled_past : (n : List ℕ) (xs : List T) → is_past name n xs → items_filled name f n xs ≡ xs
    filled_past n [] past = refl
    filled_past n (x ∷ xs) past = ap (λ o. by_order o x (f x) x ∷ items_filled name f n xs) past.0 ∙ ap (λ rest. x ∷ rest) (filled_past n xs past.1)

    pages_above : (n : List ℕ) (pages : List (Page T)) → IsTrue (is_above n (keyed name (items_of pages))) → named_filled name f n pages ≡ pages
    pages_above n [] h = refl
    pages_above n (page ∷ pages) h =
        ap₂ (λ items rest. record { items = items; place = page.place } ∷ rest) (filled_above n page.items (above_front name n page.items (items_of pages) h))
        (pages_above n pages (above_rest name n page.items (items_of pages) h))

    -- the item of the name among items in order
    items_at_name : (n : List ℕ) (xs : List T) (i : ℕ) (t : T) → IsTrue (is_ordered (keyed name xs)) → slice_get xs i ≡ Some t → by_bytes n (name t) ≡ Equal → items_filled name f n xs ≡ changed_at f i xs
    items_at_name n [] i t h at is = refl
    items_at_name n (x ∷ xs) zero t h at is =
        let same : t ≡ x = cc in
        let equal : by_bytes n (name x) ≡ Equal = subst (λ (y : T). by_bytes n (name y) ≡ Equal) same is in
        ap (λ o. by_order o x (f x) x ∷ items_filled name f n xs) equal ∙ ap (λ rest. f x ∷ rest) (filled_above n xs (above_equal n (name x) xs equal h))
      where
        above_equal : (n lower : List ℕ) (xs : List T) → by_bytes n lower ≡ Equal → IsTrue (is_above lower (keyed name xs)) → IsTrue (is_above n (keyed name xs))
        above_equal n lower [] equal h = refl
        above_equal n lower (x ∷ xs) equal h =
            and_from _ _ (ap is_lt (nat_list_cmp_total.congr n lower (name x) equal) ∙ first_so _ _ h) (second_so (is_lt (by_bytes lower (name x))) _ h)
    items_at_name n (x ∷ xs) (suc i) t h at is =
        let below : by_bytes (name x) (name t) ≡ Less = above_at (name x) xs i t h at in
        let greater : by_bytes n (name x) ≡ Greater = nat_list_cmp_total.congr n (name t) (name x) is ∙ swapped (name x) (name t) Less below in
        ap (λ o. by_order o x (f x) x ∷ items_filled name f n xs) greater ∙ ap (λ rest. x ∷ rest) (items_at_name n xs i t (tail_ordered (name x) (keyed name xs) h) at is)

    filled_by : (n : List ℕ) (page : Page T) (pages : List (Page T)) (i : ℕ) (t : T) (b : Bool) → some_begins_by name n pages ≡ b → IsTrue (is_ordered (keyed name (page.items ++ items_of pages)))
        → slice_get (items_at (cond b (suc (home name n pages)) 0) (page ∷ pages)) i ≡ Some t → by_bytes n (name t) ≡ Equal
        → (slice_get (items_at (home name n pages) pages) i ≡ Some t → named_filled name f n pages ≡ changed_at (page_filled f i) (home name n pages) pages)
        → named_filled name f n (page ∷ pages) ≡ changed_at (page_filled f i) (cond b (suc (home name n pages)) 0) (page ∷ pages)
    filled_by n page pages i t true is h at equal next =
        ap₂ (λ items rest. record { items = items; place = page.place } ∷ rest) (filled_past n page.items (past_items name n page.items pages h is)) (next at)
    filled_by n page pages i t false is h at equal next =
        ap₂ (λ items rest. record { items = items; place = page.place } ∷ rest) (items_at_name n page.items i t (ordered_front name page.items (items_of pages) h) at equal)
        (pages_above n pages (all_above n (items_of pages) (before_items name n pages is) (ordered_rest name page.items (items_of pages) h)))

    -- the item of a name, at its place in the page where the name goes
    filled_at_home : (n : List ℕ) (pages : List (Page T)) (i : ℕ) (t : T) → IsTrue (is_ordered (keyed name (items_of pages)))
        → slice_get (items_at (home name n pages) pages) i ≡ Some t → by_bytes n (name t) ≡ Equal → named_filled name f n pages ≡ changed_at (page_filled f i) (home name n pages) pages
    filled_at_home n [] i t h at equal = refl
    filled_at_home n (page ∷ pages) i t h at equal =
        filled_by n page pages i t (some_begins_by name n pages) refl h at equal (λ there. filled_at_home n pages i t (ordered_rest name page.items (items_of pages) h) there equal)

    pub filled_where_found : (n : List ℕ) (pages : List (Page T)) (k i : ℕ) → IsTrue (is_ordered (keyed name (items_of pages))) → k ≡ home name n pages
        → IsFoundAt (keyed name (items_at k pages)) n i → changed_at (page_filled f i) k pages ≡ named_filled name f n pages
    filled_where_found n pages k i h at found =
        let t : T = found.value.0.1 in
        let there : slice_get (items_at (home name n pages) pages) i ≡ Some t =
        subst (λ (j : ℕ). slice_get (items_at j pages) i ≡ Some t) at (keyed_item (items_at k pages) i found.value.0 found.value.1) in
        ap (λ j. changed_at (page_filled f i) j pages) at ∙ sym (filled_at_home n pages i t h there (named_so n (items_at k pages) t found.value.2))

module _ {T : Type 0} where
  pub ends_some : (pages : List (Page T)) → EndsUnstored pages → 1 ≤ length pages
  ends_some [] ends = absurd ends
  ends_some (page ∷ pages) ends = omega arith

  pub ends_unstored : (k : ℕ) (pages : List (Page T)) → suc k ≡ length pages → EndsUnstored pages → IfSome (slice_get pages k) IsUnstored
  ends_unstored k [] last ends = tt
  ends_unstored zero (page ∷ []) last ends = ends
  ends_unstored zero (page ∷ next ∷ pages) last ends = absurd (omega arith)
  ends_unstored (suc k) (page ∷ []) last ends = absurd (omega arith)
  ends_unstored (suc k) (page ∷ next ∷ pages) last ends = ends_unstored k (next ∷ pages) (omega arith) ends

  pub some_at : (k : ℕ) (pages : List (Page T)) → k < length pages → HaveItems pages → 1 ≤ length (items_at k pages)
  some_at k [] inside have = absurd (omega arith)
  some_at zero (page ∷ pages) inside have = All-head (λ (it : Page T). 1 ≤ length it.items) page pages have
  some_at (suc k) (page ∷ pages) inside have = some_at k pages (omega arith) (All-tail (λ (it : Page T). 1 ≤ length it.items) page pages have)

  module _ (f : T → T) where
    end_at : (i : ℕ) (items : List T) → suc i ≡ length items → end_filled f items ≡ changed_at f i items
    end_at i [] last = refl
    end_at zero (t ∷ []) last = refl
    end_at zero (t ∷ next ∷ items) last = absurd (omega arith)
    end_at (suc i) (t ∷ []) last = absurd (omega arith)
    end_at (suc i) (t ∷ next ∷ items) last = ap (λ rest. t ∷ rest) (end_at i (next ∷ items) (omega arith))

    -- the last item, at its place in the last page
    pub filled_at_end : (k i : ℕ) (pages : List (Page T)) → suc k ≡ length pages → suc i ≡ length (items_at k pages) → last_filled f pages ≡ changed_at (page_filled f i) k pages
    filled_at_end k i [] last end = refl
    filled_at_end zero i (page ∷ []) last end = ap (λ items. record { items = items; place = page.place } ∷ []) (end_at i page.items end)
    filled_at_end zero i (page ∷ next ∷ pages) last end = absurd (omega arith)
    filled_at_end (suc k) i (page ∷ []) last end = absurd (omega arith)
    filled_at_end (suc k) i (page ∷ next ∷ pages) last end = ap (λ rest. page ∷ rest) (filled_at_end k i (next ∷ pages) (omega arith) end)
