-- A page that is placed and taken back is as it was, and so are the used blocks.
use Rattle.std.proofs.Common.{◌≡◌, inl, inr, ℕ, ◌+◌, Bool, true, false, List, length, get_or, set, refl, sym, ap, ap₂, ◌∙◌, subst, arith}
use Rattle.std.specs.Prelude.{IfSome}
use Rattle.std.proofs.lemmas.Bool.{cases_lt}
use Rattle.std.proofs.lemmas.List.{ext_get_or, get_or-set_same, set-set}
use Rattle.std.proofs.lemmas.Option.{slice_get_read}
use Rattle.rs_extent.specs.declared.Extent.{Extent}
use Rattle.rs_extent.specs.Blocks.{IsFree, IsTaken, IsLowest, Sets}
use Rattle.rs_page.specs.declared.place.Place.{Place}
use Rattle.rs_page.specs.declared.place.Place.TheVariants.{Touched, Placed, Stored}
use Rattle.rs_page.specs.Format.{ItemFormat}
use Rattle.rs_page.specs.Pages.{Page, IsTouched, placed_extent}
use Rattle.rs_page.specs.Placing.{PlacesOne, TakesLowest, place_taken_back, GivesBack}
use Rattle.rs_pages.proofs.Placed.{same_page, PlacesFirst}
use Rattle.rs_pages.proofs.Writing.{same_at, set_itself}

-- a free extent that is taken and given back
undone : (u v w : List Bool) (e : Extent) → IsFree u e → Sets u v e true → Sets v w e false → w ≡ u
undone u v w e free takes gives = ext_get_or true w u (gives.size ∙ takes.size) (λ b inside. elim (cases_lt b e.first) [
  | inl low ↦ gives.before b low ∙ takes.before b low
  | inr above ↦ elim (cases_lt b (e.first + e.blocks)) [
    | inl below ↦ gives.within b above below ∙ sym (free b above below)
    | inr high ↦ gives.after b high ∙ takes.after b high
  ]
])

taken : (u v : List Bool) (n : ℕ) (e : Extent) → IsLowest u n e → Sets u v e true → IsTaken v e
taken u v n e lowest takes b above below = (omega (arith, above, below, lowest.inside, lowest.blocks, takes.size), takes.within b above below)

module _ {T : Type 0} (format : ItemFormat T) where
  -- a page that was placed can be taken back
  can_give : (u v : List Bool) (items : List T) (place : Place) (y : Page T) → IsTouched place → PlacesOne format u (record { items = items; place = place }) v y
      → IfSome (placed_extent y.place) (IsTaken v)
  can_give u v items Touched y touched one =
      let takes : TakesLowest format items u v y.place = one.1 in
      subst (λ (p : Place). IfSome (placed_extent p) (IsTaken v)) (sym takes.placed) (taken u v _ takes.extent takes.lowest takes.takes)
  can_give u v items (Placed e) y touched one = absurd touched
  can_give u v items (Stored ref) y touched one = absurd touched

  -- and is as it was then
  given_back : (u v w : List Bool) (items : List T) (place : Place) (y z : Page T) → IsTouched place → PlacesOne format u (record { items = items; place = place }) v y
      → z.items ≡ y.items → z.place ≡ place_taken_back y.place → GivesBack y.place v w → (w ≡ u) × (z ≡ record { items = items; place = place })
  given_back u v w items Touched y z touched one same back gives =
      let takes : TakesLowest format items u v y.place = one.1 in (
        undone u v w takes.extent takes.lowest.is_free takes.takes (subst (λ (p : Place). GivesBack p v w) takes.placed gives),
        same_page z (record { items = items; place = Touched }) (same ∙ one.0) (back ∙ ap place_taken_back takes.placed),
      )
  given_back u v w items (Placed e) y z touched one same back gives = absurd touched
  given_back u v w items (Stored ref) y z touched one same back gives = absurd touched

-- The page at k was placed first.
module _ {T : Type 0} {format : ItemFormat T} {u v : List Bool} {k : ℕ} {old : List (Page T)} {d page : Page T} (first : PlacesFirst format u v k old d page) {v' : List Bool} {now : List (Page T)} (e : Page T)
    (made : now ≡ set old k page) (same : v' ≡ v) where
  is_there : get_or old k d ≡ get_or old k (get_or old k d)
  is_there = same_at old k d (get_or old k d) first.inside

  was_touched : IsTouched (get_or old k d).place
  was_touched = subst (λ o. IfSome o (λ (it : Page T). IsTouched it.place)) (slice_get_read old (length old) k (get_or old k d) refl first.inside is_there) first.touched

  is_page : get_or now k e ≡ page
  is_page = ap (λ pages. get_or pages k e) made ∙ get_or-set_same old k page e first.inside

  -- it can be taken back
  pub can_give_at : IfSome (placed_extent (get_or now k e).place) (IsTaken v')
  can_give_at =
      subst (λ (it : Page T). IfSome (placed_extent it.place) (IsTaken v')) (sym is_page)
      (subst (λ (used : List Bool). IfSome (placed_extent page.place) (IsTaken used)) (sym same) (can_give format u v (get_or old k d).items (get_or old k d).place page was_touched first.one))

  -- and all is as it was then
  pub all_back : (w : List Bool) (z : Page T) → z.items ≡ (get_or now k e).items → z.place ≡ place_taken_back (get_or now k e).place → GivesBack (get_or now k e).place v' w → (w ≡ u) × (set now k z ≡ old)
  all_back w z items place gives =
      let back = given_back format u v w (get_or old k d).items (get_or old k d).place page z was_touched first.one (items ∙ ap (λ it. it.items) is_page) (place ∙ ap (λ it. place_taken_back it.place) is_page)
      (subst (λ (it : Page T). GivesBack it.place v w) is_page (subst (λ (used : List Bool). GivesBack (get_or now k e).place used w) same gives)) in
      (back.0, ap₂ (λ pages it. set pages k it) made back.1 ∙ set-set old k page (get_or old k d) ∙ set_itself k old (get_or old k d) is_there)
