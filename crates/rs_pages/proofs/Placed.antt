-- Pages that are given blocks, one after the other.
use Rattle.std.proofs.Common.{◌≡◌, ℕ, zero, suc, ◌+◌, ◌<◌, ◌≤◌, List, [], ◌∷◌, ◌++◌, length, get_or, set, take, drop, map, Bool, refl, sym, ap, ap₂, ◌∙◌, subst, inl, inr, arith, add-one, Result, Ok, Err}
use Rattle.std.specs.Prelude.{All, IfSome, OnOk, OnErr, slice_get}
use Rattle.std.proofs.lemmas.List.{append-nil, length-map}
use Rattle.std.proofs.lemmas.List.Elements.{All-cons, All-head, All-tail, All-push}
use Rattle.std.proofs.Math.Seq.{drop-length, take-length}
use Rattle.rs_pages.proofs.Joined.{same_joined}
use Rattle.rs_pages.proofs.Writing.{front_set}
use Rattle.rs_pages.proofs.Taken.{settled_by}
use Rattle.rs_pages.specs.Rule.{HaveItems}
use Rattle.rs_pages.specs.Starts.{AreCounted, starts_of}
use Rattle.rs_pages.specs.Storing.{items_by_page}
use Rattle.rs_page.specs.Format.{ItemFormat}
use Rattle.rs_page.specs.declared.place.Place.{Place}
use Rattle.rs_page.specs.declared.place.Place.TheVariants.{Touched, Placed, Stored}
use Rattle.rs_page.specs.Pages.{Page, IsTouched, stored_ref}
use Rattle.rs_page.specs.Placing.{PlacesOne, PageHasNoRun, Places, HasNoPlace}

-- pages of the same items at the same place are the same
pub same_page : {T : Type 0} (x y : Page T) → x.items ≡ y.items → x.place ≡ y.place → x ≡ y
same_page {T} x y items place = ap₂ (λ (xs : List T) (p : Place). record { items = xs; place = p }) items place

module _ {T : Type 0} (format : ItemFormat T) where
  -- a page that is not touched stays, and takes no blocks
  stays : (u v : List Bool) (items : List T) (place : Place) (page : Page T) → ¬ IsTouched place → PlacesOne format u (record { items = items; place = place }) v page
      → (v ≡ u) × (page ≡ record { items = items; place = place })
  stays u v items Touched page settled one = absurd (settled tt)
  stays u v items (Placed e) page settled one = (one.1.0, same_page page (record { items = items; place = Placed e }) one.0 one.1.1)
  stays u v items (Stored ref) page settled one = (one.1.0, same_page page (record { items = items; place = Stored ref }) one.0 one.1.1)

  leaves : (u : List Bool) (items : List T) (place : Place) → ¬ IsTouched place → PlacesOne format u (record { items = items; place = place }) u (record { items = items; place = place })
  leaves u items Touched settled = absurd (settled tt)
  leaves u items (Placed e) settled = (refl, (refl, refl))
  leaves u items (Stored ref) settled = (refl, (refl, refl))

  -- pages none of which is touched are placed as they are
  pub places_none : (u : List Bool) (pages : List (Page T)) → All (λ page. ¬ IsTouched page.place) pages → Places format u pages u pages
  places_none u [] settled = refl
  places_none u (page ∷ pages) settled =
      let P : Page T → Type 0 = λ it. ¬ IsTouched it.place in
      (u, leaves u page.items page.place (All-head P page pages settled), places_none u pages (All-tail P page pages settled))

  not_full : (u : List Bool) (items : List T) (place : Place) → ¬ IsTouched place → PageHasNoRun format u (record { items = items; place = place }) → ⊥
  not_full u items Touched settled none = settled tt
  not_full u items (Placed e) settled none = none
  not_full u items (Stored ref) settled none = none

  -- the first touched page has no run
  pub full_at : (u : List Bool) (k : ℕ) (old : List (Page T)) (d : Page T) → k < length old → All (λ page. ¬ IsTouched page.place) (take k old) → PageHasNoRun format u (get_or old k d) → HasNoPlace format u old
  full_at u k [] d inside before none = absurd (omega arith)
  full_at u zero (o ∷ old) d inside before none = inl none
  full_at u (suc k) (o ∷ old) d inside before none =
      let P : Page T → Type 0 = λ it. ¬ IsTouched it.place in
      inr (u, o, leaves u o.items o.place (All-head P o (take k old) before), full_at u k old d (omega arith) (All-tail P o (take k old) before) none)

-- Of these pages the first that is touched is at k, and is placed as this one.
pub record PlacesFirst {T : Type 0} (format : ItemFormat T) (u v : List Bool) (k : ℕ) (old : List (Page T)) (d page : Page T) : Type 0 where
  pub inside : k < length old
  pub before : All (λ it. ¬ IsTouched it.place) (take k old)
  pub touched : IfSome (slice_get old k) (λ it. IsTouched it.place)
  pub one : PlacesOne format u (get_or old k d) v page

module _ {T : Type 0} {format : ItemFormat T} {u v : List Bool} where
  settled_first : {k : ℕ} {old : List (Page T)} {d page : Page T} → PlacesFirst format u v k old d page → ¬ IsTouched page.place
  settled_first {k} {old} {d} {page} first = settled_by format u v (get_or old k d).items (get_or old k d).place page first.one

  -- after a page that is not touched it is the first one of the others
  first_of_rest : (o : Page T) {k : ℕ} {old : List (Page T)} {d page : Page T} → PlacesFirst format u v (suc k) (o ∷ old) d page
      → (¬ IsTouched o.place) × PlacesFirst format u v k old d page
  first_of_rest o {k} {old} {d} {page} first =
      let P : Page T → Type 0 = λ it. ¬ IsTouched it.place in
      (All-head P o (take k old) first.before, record { inside = omega (arith, first.inside); before = All-tail P o (take k old) first.before; touched = first.touched; one = first.one })

  -- the others are placed after it
  pub places_behind : (w : List Bool) (k : ℕ) (old new : List (Page T)) (d page : Page T) → PlacesFirst format u v k old d page → Places format v (set old k page) w new → Places format u old w new
  places_behind w k [] new d page first places = absurd (omega (arith, first.inside))
  places_behind w zero (o ∷ old) [] d page first places = absurd places
  places_behind w zero (o ∷ old) (n ∷ new) d page first places =
      let kept = stays format v places.0 page.items page.place n (settled_first first) places.1 in (
        v,
        subst (λ (it : Page T). PlacesOne format u o v it) (sym kept.1) first.one,
        subst (λ (b : List Bool). Places format b old w new) kept.0 places.2,
      )
  places_behind w (suc k) (o ∷ old) [] d page first places = absurd places
  places_behind w (suc k) (o ∷ old) (n ∷ new) d page first places =
      let rest = first_of_rest o first in
      let kept = stays format v places.0 o.items o.place n rest.0 places.1 in (
        u,
        subst (λ (it : Page T). PlacesOne format u o u it) (sym kept.1) (leaves format u o.items o.place rest.0),
        places_behind w k old new d page rest.1 (subst (λ (b : List Bool). Places format b (set old k page) w new) kept.0 places.2),
      )

  -- or one after it has no run
  pub full_behind : (k : ℕ) (old : List (Page T)) (d page : Page T) → PlacesFirst format u v k old d page → HasNoPlace format v (set old k page) → HasNoPlace format u old
  full_behind k [] d page first none = absurd (omega (arith, first.inside))
  full_behind zero (o ∷ old) d page first none = elim none [
    | inl here ↦ absurd (not_full format v page.items page.place (settled_first first) here)
    | inr there ↦
        inr (v, page, first.one, subst (λ (b : List Bool). HasNoPlace format b old) (stays format v there.0 page.items page.place there.1 (settled_first first) there.2).0 there.3)
  ]
  full_behind (suc k) (o ∷ old) d page first none =
      let rest = first_of_rest o first in
      elim none [
        | inl here ↦ absurd (not_full format v o.items o.place rest.0 here)
        | inr there ↦
            let later : HasNoPlace format v (set old k page) = subst (λ (b : List Bool). HasNoPlace format b (set old k page)) (stays format v there.0 o.items o.place there.1 rest.0 there.2).0 there.3 in
            inr (u, o, leaves format u o.items o.place rest.0, full_behind k old d page rest.1 later)
      ]

  -- neither it nor any before it is touched then
  pub settled_behind : {k : ℕ} {old : List (Page T)} {d page : Page T} → PlacesFirst format u v k old d page → All (λ it. ¬ IsTouched it.place) (take (k + 1) (set old k page))
  settled_behind {k} {old} {d} {page} first =
      subst (All {X = Page T} (λ it. ¬ IsTouched it.place)) (sym (ap (λ n. take n (set old k page)) (add-one k) ∙ (front_set k old page first.inside).0))
      (All-push (λ (it : Page T). ¬ IsTouched it.place) (take k old) page first.before (settled_first first))

module _ {T : Type 0} (format : ItemFormat T) where
  ref_kept : (used used' : List Bool) (items : List T) (place : Place) (page : Page T) → PlacesOne format used (record { items = items; place = place }) used' page → stored_ref page.place ≡ stored_ref place
  ref_kept used used' items Touched page one = ap stored_ref one.1.placed
  ref_kept used used' items (Placed e) page one = ap stored_ref one.1.1
  ref_kept used used' items (Stored ref) page one = ap stored_ref one.1.1

  places_keep : (used used' : List Bool) (old new : List (Page T)) → Places format used old used' new
      → (items_by_page new ≡ items_by_page old) × (map (λ it. stored_ref it.place) new ≡ map (λ it. stored_ref it.place) old)
  places_keep used used' [] [] places = (refl, refl)
  places_keep used used' [] (n ∷ new) places = absurd places
  places_keep used used' (o ∷ old) [] places = absurd places
  places_keep used used' (o ∷ old) (n ∷ new) places =
      let rest = places_keep places.0 used' old new places.2 in
      (ap₂ (λ items later. items ∷ later) places.1.0 rest.0, ap₂ (λ ref later. ref ∷ later) (ref_kept used places.0 o.items o.place n places.1) rest.1)

  -- with any answer, the items stay, and so do the references to pages that are on the disk
  pub placed_keep : {A E : Type 0} (used used' : List Bool) (old new : List (Page T)) (r : Result A E) → OnOk r (Places format used old used' new) → OnErr r (new ≡ old)
      → (items_by_page new ≡ items_by_page old) × (map (λ it. stored_ref it.place) new ≡ map (λ it. stored_ref it.place) old)
  placed_keep used used' old new (Ok a) ok err = places_keep used used' old new ok
  placed_keep used used' old new (Err e) ok err = (ap items_by_page err, ap (map (λ it. stored_ref it.place)) err)

-- pages with the same items are counted the same
module _ {T : Type 0} where
  starts_along : (m : ℕ) (new old : List (Page T)) → map (λ p. p.items) new ≡ map (λ p. p.items) old → starts_of m new ≡ starts_of m old
  starts_along m [] [] h = refl
  starts_along m [] (o ∷ old) h = cc
  starts_along m (n ∷ new) [] h = cc
  starts_along m (n ∷ new) (o ∷ old) h =
      let first : n.items ≡ o.items = cc in
      let rest : map (λ p. p.items) new ≡ map (λ p. p.items) old = cc in
      ap (λ xs. m ∷ starts_of (m + length xs) new) first ∙ ap (λ xs. m ∷ xs) (starts_along (m + length o.items) new old rest)

  have_along : (new old : List (Page T)) → map (λ p. p.items) new ≡ map (λ p. p.items) old → HaveItems old → HaveItems new
  have_along [] [] h have = have
  have_along [] (o ∷ old) h have = cc
  have_along (n ∷ new) [] h have = cc
  have_along (n ∷ new) (o ∷ old) h have =
      let P : Page T → Type 0 = λ it. 1 ≤ length it.items in
      let first : n.items ≡ o.items = cc in
      let rest : map (λ p. p.items) new ≡ map (λ p. p.items) old = cc in
      All-cons P n new (subst (λ (xs : List T). 1 ≤ length xs) (sym first) (All-head P o old have)) (have_along new old rest (All-tail P o old have))

  counted_along : (new old : List (Page T)) (starts : List ℕ) (len : ℕ) → map (λ p. p.items) new ≡ map (λ p. p.items) old → AreCounted old starts len → AreCounted new starts len
  counted_along new old starts len h counted =
      record { some = have_along new old h counted.some; starts = counted.starts ∙ sym (starts_along 0 new old h); len = counted.len ∙ ap length (sym (same_joined old new h)) }

  -- a slice of all pages was written
  pub slice_whole : (n : ℕ) (new old : List (Page T)) → n ≡ length old → map (λ p. p.items) new ≡ map (λ p. p.items) old → take n (new ++ drop (length new) old) ≡ new
  slice_whole n new old size h =
      let long : length new ≡ length old = sym (length-map new (λ p. p.items)) ∙ (ap length h ∙ length-map old (λ p. p.items)) in
      let none : drop (length new) old ≡ [] = ap (λ m. drop m old) long ∙ drop-length old in
      ap (λ xs. take n (new ++ xs)) none ∙ (ap (take n) (append-nil new) ∙ (ap (λ m. take m new) (size ∙ sym long) ∙ take-length new))

  -- and is counted the same
  pub counted_slice : (n : ℕ) (new old : List (Page T)) (starts : List ℕ) (len : ℕ) → n ≡ length old → map (λ p. p.items) new ≡ map (λ p. p.items) old → AreCounted old starts len
      → AreCounted (take n (new ++ drop (length new) old)) starts len
  counted_slice n new old starts len size h counted =
      subst (λ (pages : List (Page T)). AreCounted pages starts len) (sym (slice_whole n new old size h)) (counted_along new old starts len h counted)
