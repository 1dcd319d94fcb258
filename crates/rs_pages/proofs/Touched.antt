-- The pages that the page rule touches, and those that it leaves.
use Rattle.std.proofs.Common.{◌≡◌, ℕ, zero, suc, ◌-◌, List, [], ◌∷◌, ◌++◌, length, Bool, true, false, cond, refl, sym, ap, ◌∙◌, arith, inl, inr, subst, Option, Some, None}
use Rattle.std.specs.Prelude.{is_some, All, nat_lt}
use Rattle.std.specs.List.{cons_option}
use Rattle.std.proofs.lemmas.List.{append-nil, append_assoc}
use Rattle.std.proofs.lemmas.List.Elements.{All-nil, All-head, All-tail}
use Rattle.rs_model.specs.Names.{value_of}
use Rattle.rs_pages.proofs.FromBelow.{ordered-bind, ordered-unbind}
use Rattle.rs_page.specs.declared.place.Place.{Place}
use Rattle.rs_page.specs.declared.place.Place.TheVariants.{Touched, Placed, Stored}
use Rattle.rs_page.specs.Pages.{Page, IsTouched, items_of, placed_extents, placed_extent, stored_ref}
use Rattle.rs_page.specs.SharedPages.{IsSublist, KeepsPages, stored_pages}
use Rattle.rs_pages.specs.Items.{keyed, put_in, taken_out}
use Rattle.rs_pages.specs.Rule.{touched_pages, items_at, with_page, home, bound_in, unbound_in, appended_to}
use Rattle.rs_pages.specs.Laws.{IsFreshPage, TouchesOne, BindsAsOne, UnbindsAsOne}
use Rattle.rs_pages.proofs.InOrder.{keyed-put_in, keyed-taken_out}
use Rattle.rs_pages.proofs.Flat.{first_page, items_of-bound, items_of-unbound}
use Rattle.rs_pages.proofs.Cut.{fresh_cut}

fresh : {T : Type 0} (items : List T) → All IsFreshPage (touched_pages items)
fresh items = fresh_cut 32 (omega arith) (omega arith) items

touch_page : {T : Type 0} (i : ℕ) (items : List T) (pages : List (Page T)) → TouchesOne pages (with_page i items pages)
touch_page i items [] =
    record { before = []; gone = []; made = touched_pages items; after = []; was = refl; is = sym (append-nil (touched_pages items)); one = omega arith; fresh = fresh items }
touch_page zero items (page ∷ pages) =
    record { before = []; gone = page ∷ []; made = touched_pages items; after = pages; was = refl; is = refl; one = omega arith; fresh = fresh items }
touch_page (suc i) items (page ∷ pages) =
    let rest = touch_page i items pages in
    record {
      before = page ∷ rest.before;
      gone = rest.gone;
      made = rest.made;
      after = rest.after;
      was = ap (λ ps. page ∷ ps) rest.was;
      is = ap (λ ps. page ∷ ps) rest.is;
      one = rest.one;
      fresh = rest.fresh;
    }

touch_none : {T : Type 0} (pages : List (Page T)) → TouchesOne pages pages
touch_none pages =
    record { before = pages; gone = []; made = []; after = []; was = sym (append-nil pages); is = sym (append-nil pages); one = omega arith; fresh = All-nil IsFreshPage }

touch_end : {T : Type 0} (t : T) (pages : List (Page T)) → TouchesOne pages (pages ++ touched_pages (t ∷ []))
touch_end t pages =
    record { before = pages; gone = []; made = touched_pages (t ∷ []); after = []; was = sym (append-nil pages); is = refl; one = omega arith; fresh = fresh (t ∷ []) }

touch_if : {T : Type 0} (b : Bool) (old a c : List (Page T)) → TouchesOne old a → TouchesOne old c → TouchesOne old (cond b a c)
touch_if true old a c h k = h
touch_if false old a c h k = k

pub touch_bound : {T : Type 0} (name : T → List ℕ) (t : T) (pages : List (Page T)) → TouchesOne pages (bound_in name t pages)
touch_bound name t pages = touch_page (home name (name t) pages) (put_in name t (items_at (home name (name t) pages) pages)) pages

pub touch_unbound : {T : Type 0} (name : T → List ℕ) (n : List ℕ) (pages : List (Page T)) → TouchesOne pages (unbound_in name n pages)
touch_unbound name n pages =
    let i : ℕ = home name n pages in
    touch_if (is_some (value_of n (keyed name (items_at i pages)))) pages (with_page i (taken_out name n (items_at i pages)) pages) pages
    (touch_page i (taken_out name n (items_at i pages)) pages) (touch_none pages)

pub touch_appended : {T : Type 0} (t : T) (pages : List (Page T)) → TouchesOne pages (appended_to t pages)
touch_appended t pages =
    let i : ℕ = length pages - 1 in
    touch_if (nat_lt (length (items_at i pages)) 64) pages (with_page i (items_at i pages ++ t ∷ []) pages) (pages ++ touched_pages (t ∷ []))
    (touch_page i (items_at i pages ++ t ∷ []) pages) (touch_end t pages)

-- all items with one appended
at_end : {T : Type 0} (t : T) (i : ℕ) (pages : List (Page T)) → suc i ≡ length pages → items_of (with_page i (items_at i pages ++ t ∷ []) pages) ≡ items_of pages ++ t ∷ []
at_end t i [] h = absurd (omega arith)
at_end t zero (page ∷ []) h = first_page (page.items ++ t ∷ []) [] ∙ (append-nil (page.items ++ t ∷ []) ∙ ap (λ xs. xs ++ t ∷ []) (sym (append-nil page.items)))
at_end t zero (page ∷ next ∷ pages) h = absurd (omega arith)
at_end t (suc i) (page ∷ pages) h =
    ap (λ xs. page.items ++ xs) (at_end t i pages (omega arith)) ∙ sym (append_assoc page.items (items_of pages) (t ∷ []))

new_end : {T : Type 0} (t : T) (pages : List (Page T)) → items_of (pages ++ touched_pages (t ∷ [])) ≡ items_of pages ++ t ∷ []
new_end t [] = refl
new_end t (page ∷ pages) = ap (λ xs. page.items ++ xs) (new_end t pages) ∙ sym (append_assoc page.items (items_of pages) (t ∷ []))

either_end : {T : Type 0} (t : T) (b : Bool) (pages a c : List (Page T)) → items_of a ≡ items_of pages ++ t ∷ [] → items_of c ≡ items_of pages ++ t ∷ [] → items_of (cond b a c) ≡ items_of pages ++ t ∷ []
either_end t true pages a c h k = h
either_end t false pages a c h k = k

last_end : {T : Type 0} (t : T) (pages : List (Page T)) → items_of (with_page (length pages - 1) (items_at (length pages - 1) pages ++ t ∷ []) pages) ≡ items_of pages ++ t ∷ []
last_end t [] = refl
last_end t (page ∷ pages) = at_end t (length (page ∷ pages) - 1) (page ∷ pages) (omega arith)

pub items_of-appended : {T : Type 0} (t : T) (pages : List (Page T)) → items_of (appended_to t pages) ≡ items_of pages ++ t ∷ []
items_of-appended t pages =
    let i : ℕ = length pages - 1 in
    either_end t (nat_lt (length (items_at i pages)) 64) pages (with_page i (items_at i pages ++ t ∷ []) pages) (pages ++ touched_pages (t ∷ [])) (last_end t pages) (new_end t pages)

pub binds_as_one : {T : Type 0} (name : T → List ℕ) → BindsAsOne name
binds_as_one name t pages h =
    let is = ap (keyed name) (items_of-bound name t pages h) ∙ keyed-put_in name t (items_of pages) in
    (is, rw is (ordered-bind (name t) t (keyed name (items_of pages)) h))

pub unbinds_as_one : {T : Type 0} (name : T → List ℕ) → UnbindsAsOne name
unbinds_as_one name n pages h =
    let is = ap (keyed name) (items_of-unbound name n pages h) ∙ keyed-taken_out name n (items_of pages) in
    (is, rw is (ordered-unbind n (keyed name (items_of pages)) h))

-- parts of a list
pub itself : {A : Type 0} (xs : List A) → IsSublist xs xs
itself [] = tt
itself (x ∷ xs) = inl (refl, itself xs)

skip : {A : Type 0} (xs : List A) (y : A) (ys : List A) → IsSublist xs ys → IsSublist xs (y ∷ ys)
skip [] y ys h = tt
skip (x ∷ xs) y ys h = inr h

keep : {A : Type 0} (y : A) (b : Bool) (xs ys : List A) → IsSublist xs ys → IsSublist (cond b (y ∷ xs) xs) (cond b (y ∷ ys) ys)
keep y true xs ys h = inl (refl, h)
keep y false xs ys h = h

pub drop_one : {A : Type 0} (y : A) (b : Bool) (xs ys : List A) → IsSublist xs ys → IsSublist xs (cond b (y ∷ ys) ys)
drop_one y true xs ys h = skip xs y ys h
drop_one y false xs ys h = h

-- touched pages are not on the disk, and have no blocks
pub not_stored : (place : Place) → IsTouched place → is_some (stored_ref place) ≡ false
not_stored Touched h = refl
not_stored (Placed extent) h = refl
not_stored (Stored ref) h = absurd h

not_placed : (place : Place) → IsTouched place → placed_extent place ≡ None
not_placed Touched h = refl
not_placed (Placed extent) h = absurd h
not_placed (Stored ref) h = refl

pub rest_none : {A : Type 0} (o : Option A) (xs : List A) → cons_option o xs ≡ [] → (o ≡ None) × (xs ≡ [])
rest_none None xs h = (refl, h)
rest_none (Some x) xs h = cc

module _ {T : Type 0} where
  pub stored_after : (made after : List (Page T)) → All IsFreshPage made → stored_pages (made ++ after) ≡ stored_pages after
  stored_after [] after h = refl
  stored_after (page ∷ made) after h =
      ap (λ b. cond b (page ∷ stored_pages (made ++ after)) (stored_pages (made ++ after))) (not_stored page.place (All-head IsFreshPage page made h).0)
      ∙ stored_after made after (All-tail IsFreshPage page made h)

  stored_kept : (gone after : List (Page T)) → IsSublist (stored_pages after) (stored_pages (gone ++ after))
  stored_kept [] after = itself (stored_pages after)
  stored_kept (page ∷ gone) after = drop_one page (is_some (stored_ref page.place)) (stored_pages after) (stored_pages (gone ++ after)) (stored_kept gone after)

  stored_before : (before xs ys : List (Page T)) → IsSublist (stored_pages xs) (stored_pages ys) → IsSublist (stored_pages (before ++ xs)) (stored_pages (before ++ ys))
  stored_before [] xs ys h = h
  stored_before (page ∷ before) xs ys h = keep page (is_some (stored_ref page.place)) (stored_pages (before ++ xs)) (stored_pages (before ++ ys)) (stored_before before xs ys h)

  placed_after : (xs ys : List (Page T)) → placed_extents (xs ++ ys) ≡ [] → placed_extents ys ≡ []
  placed_after [] ys h = h
  placed_after (page ∷ xs) ys h = placed_after xs ys (rest_none (placed_extent page.place) (placed_extents (xs ++ ys)) h).1

  pub placed_made : (made after : List (Page T)) → All IsFreshPage made → placed_extents (made ++ after) ≡ placed_extents after
  placed_made [] after h = refl
  placed_made (page ∷ made) after h =
      ap (λ o. cons_option o (placed_extents (made ++ after))) (not_placed page.place (All-head IsFreshPage page made h).0) ∙ placed_made made after (All-tail IsFreshPage page made h)

  placed_before : (before xs ys : List (Page T)) → placed_extents (before ++ xs) ≡ [] → placed_extents ys ≡ [] → placed_extents (before ++ ys) ≡ []
  placed_before [] xs ys h k = k
  placed_before (page ∷ before) xs ys h k =
      let both = rest_none (placed_extent page.place) (placed_extents (before ++ xs)) h in
      ap (λ o. cons_option o (placed_extents (before ++ ys))) both.0 ∙ placed_before before xs ys both.1 k

  pub touching_keeps : (old new : List (Page T)) → TouchesOne old new → KeepsPages old new × (placed_extents old ≡ [] → placed_extents new ≡ [])
  touching_keeps old new h =
      let stored : IsSublist (stored_pages (h.before ++ (h.made ++ h.after))) (stored_pages (h.before ++ (h.gone ++ h.after))) =
      stored_before h.before (h.made ++ h.after) (h.gone ++ h.after)
      (subst (λ (pages : List (Page T)). IsSublist pages (stored_pages (h.gone ++ h.after))) (sym (stored_after h.made h.after h.fresh)) (stored_kept h.gone h.after)) in (
        subst (λ (pages : List (Page T)). IsSublist (stored_pages pages) (stored_pages old)) (sym h.is)
            (subst (λ (pages : List (Page T)). IsSublist (stored_pages (h.before ++ (h.made ++ h.after))) (stored_pages pages)) (sym h.was) stored),
        λ none.
            let none_was : placed_extents (h.before ++ (h.gone ++ h.after)) ≡ [] = ap placed_extents (sym h.was) ∙ none in
            let none_after : placed_extents h.after ≡ [] = placed_after h.gone h.after (placed_after h.before (h.gone ++ h.after) none_was) in
            ap placed_extents h.is ∙ placed_before h.before (h.gone ++ h.after) (h.made ++ h.after) none_was (placed_made h.made h.after h.fresh ∙ none_after),
      )
