-- The blocks that the first pages were given, added to a list.
use Rattle.std.proofs.Common.{◌≡◌, ℕ, zero, suc, ◌≤◌, ◌+◌, ◌<◌, List, [], ◌∷◌, ◌++◌, length, get_or, take, Option, Some, None, refl, sym, ◌∙◌, ap, append_assoc, add-one, arith}
use Rattle.std.specs.List.{cons_option}
use Rattle.rs_extent.specs.declared.Extent.{Extent}
use Rattle.rs_page.specs.Pages.{Page, placed_extent, placed_extents}

-- Those of the first k pages are added to the list, which takes no more memory for them.
pub record ListedUpTo {T : Type 0} (k : ℕ) (pages : List (Page T)) (before after : List Extent) (n n' room room' : ℕ) : Type 0 where
  pub items : after ≡ before ++ placed_extents (take k pages)
  pub len : n' ≤ n + k
  pub capacity : room ≤ room'

one_first : (o : Option Extent) (xs ys : List Extent) → cons_option o (xs ++ ys) ≡ cons_option o xs ++ ys
one_first None xs ys = refl
one_first (Some x) xs ys = refl

-- One page more has its blocks at the end.
more_placed : {T : Type 0} (pages : List (Page T)) (i : ℕ) (d : Page T) → i < length pages
    → placed_extents (take (suc i) pages) ≡ placed_extents (take i pages) ++ cons_option (placed_extent (get_or pages i d).place) []
more_placed [] i d lt = absurd (omega arith)
more_placed (page ∷ pages) zero d lt = refl
more_placed (page ∷ pages) (suc i) d lt =
    ap (cons_option (placed_extent page.place)) (more_placed pages i d (omega arith))
    ∙ one_first (placed_extent page.place) (placed_extents (take i pages)) (cons_option (placed_extent (get_or pages i d).place) [])

-- The next page is listed after those before it.
pub next_listed : {T : Type 0} (i : ℕ) (pages : List (Page T)) (d : Page T) (before mid after : List Extent) → i < length pages → mid ≡ before ++ placed_extents (take i pages)
    → after ≡ mid ++ cons_option (placed_extent (get_or pages i d).place) [] → after ≡ before ++ placed_extents (take (i + 1) pages)
next_listed {T} i pages d before mid after lt front back =
    let own : List Extent = cons_option (placed_extent (get_or pages i d).place) [] in
    back ∙ ap (λ (l : List Extent). l ++ own) front ∙ append_assoc before (placed_extents (take i pages)) own
    ∙ ap (λ (l : List Extent). before ++ l) (sym (more_placed pages i d lt))
    ∙ ap (λ (n : ℕ). before ++ placed_extents (take n pages)) (sym (add-one i))
