-- The entry that the page rule takes out of the pages on the disk.
use Rattle.std.proofs.Common.{◌≡◌, ℕ, zero, suc, ◌-◌, Bool, true, false, cond, nat_lt, List, [], ◌∷◌, ◌++◌, length, map, Option, Some, None, refl, sym, ◌∙◌, ap, subst}
use Rattle.std.specs.Prelude.{All, is_some}
use Rattle.std.specs.List.{cons_option}
use Rattle.std.proofs.lemmas.List.{append-nil}
use Rattle.std.proofs.lemmas.List.Elements.{All-head, All-tail}
use Rattle.rs_page.specs.declared.place.PageRef.{PageRef}
use Rattle.rs_page.specs.declared.place.Place.{Place}
use Rattle.rs_page.specs.declared.place.Place.TheVariants.{Touched, Placed, Stored}
use Rattle.rs_page.specs.Pages.{Page, IsTouched, stored_ref, stored_refs}
use Rattle.rs_pages.specs.Items.{keyed, put_in, taken_out}
use Rattle.rs_pages.specs.Rule.{cut_front, touched, touched_pages, items_at, with_page, home, bound_in, unbound_in, appended_to}
use Rattle.rs_pages.specs.Entries.{entry_at, open_entry}
use Rattle.rs_pages.specs.Laws.{IsFreshPage}
use Rattle.rs_model.specs.Names.{value_of}

-- All entries are kept but one, if there is one.
pub record LosesOne (entry : Option PageRef) (old kept : List PageRef) : Type 0 where
  pub front : List PageRef
  pub back : List PageRef
  pub was : old ≡ front ++ cons_option entry back
  pub is : kept ≡ front ++ back

-- entries of two lists of pages
in_front : {A : Type 0} (o : Option A) (xs ys : List A) → cons_option o (xs ++ ys) ≡ cons_option o xs ++ ys
in_front None xs ys = refl
in_front (Some x) xs ys = refl

pub refs_both : {T : Type 0} (pages others : List (Page T)) → stored_refs (pages ++ others) ≡ stored_refs pages ++ stored_refs others
refs_both [] others = refl
refs_both (page ∷ pages) others =
    ap (cons_option (stored_ref page.place)) (refs_both pages others) ∙ in_front (stored_ref page.place) (stored_refs pages) (stored_refs others)

-- touched pages have no entries
none_touched : {T : Type 0} (lists : List (List T)) → stored_refs (map touched lists) ≡ []
none_touched [] = refl
none_touched (items ∷ lists) = none_touched lists

none_made : {T : Type 0} (items : List T) → stored_refs (touched_pages items) ≡ []
none_made [] = refl
none_made (x ∷ xs) = none_touched (cut_front (x ∷ xs))

-- nor have other touched ones
fresh_one : (place : Place) (refs : List PageRef) → IsTouched place → cons_option (stored_ref place) refs ≡ refs
fresh_one Touched refs h = refl
fresh_one (Placed e) refs h = absurd h
fresh_one (Stored ref) refs h = absurd h

pub none_fresh : {T : Type 0} (pages : List (Page T)) → All IsFreshPage pages → stored_refs pages ≡ []
none_fresh [] fresh = refl
none_fresh (page ∷ pages) fresh =
    fresh_one page.place (stored_refs pages) (All-head IsFreshPage page pages fresh).0 ∙ none_fresh pages (All-tail IsFreshPage page pages fresh)

-- Where one page is touched, its entry goes.
pub page_goes : {T : Type 0} (i : ℕ) (items : List T) (pages : List (Page T)) → LosesOne (entry_at i pages) (stored_refs pages) (stored_refs (with_page i items pages))
page_goes zero items [] = record { front = []; back = []; was = refl; is = none_made items }
page_goes (suc i) items [] = record { front = []; back = []; was = refl; is = none_made items }
page_goes zero items (page ∷ pages) = record {
  front = [];
  back = stored_refs pages;
  was = refl;
  is = refs_both (touched_pages items) pages ∙ ap (λ (l : List PageRef). l ++ stored_refs pages) (none_made items);
}
page_goes (suc i) items (page ∷ pages) =
    let rest = page_goes i items pages in
    let own = stored_ref page.place in
    record {
      front = cons_option own rest.front;
      back = rest.back;
      was = ap (cons_option own) rest.was ∙ in_front own rest.front (cons_option (entry_at i pages) rest.back);
      is = ap (cons_option own) rest.is ∙ in_front own rest.front rest.back;
    }

-- Where pages are added at the end, no entry goes.
none_goes : {T : Type 0} (items : List T) (pages : List (Page T)) → LosesOne None (stored_refs pages) (stored_refs (pages ++ touched_pages items))
none_goes items pages = record {
  front = stored_refs pages;
  back = [];
  was = sym (append-nil (stored_refs pages));
  is = refs_both pages (touched_pages items) ∙ ap (λ (l : List PageRef). stored_refs pages ++ l) (none_made items);
}

by_test : {T : Type 0} (t : Bool) (one other : Option PageRef) (old : List PageRef) (pages others : List (Page T)) → LosesOne one old (stored_refs pages)
    → LosesOne other old (stored_refs others) → LosesOne (cond t one other) old (stored_refs (cond t pages others))
by_test true one other old pages others first second = first
by_test false one other old pages others first second = second

-- an item is appended
pub append_takes : {T : Type 0} (t : T) (pages : List (Page T)) → LosesOne (open_entry pages) (stored_refs pages) (stored_refs (appended_to t pages))
append_takes t pages =
    let last = length pages - 1 in
    by_test (nat_lt (length (items_at last pages)) 64) (entry_at last pages) None (stored_refs pages) (with_page last (items_at last pages ++ t ∷ []) pages)
    (pages ++ touched_pages (t ∷ [])) (page_goes last (items_at last pages ++ t ∷ []) pages) (none_goes (t ∷ []) pages)

-- an item is bound
pub bind_takes : {T : Type 0} (name : T → List ℕ) (t : T) (pages : List (Page T))
    → LosesOne (entry_at (home name (name t) pages) pages) (stored_refs pages) (stored_refs (bound_in name t pages))
bind_takes name t pages = page_goes (home name (name t) pages) (put_in name t (items_at (home name (name t) pages) pages)) pages

-- an item is unbound that its page has
pub unbind_takes : {T : Type 0} (name : T → List ℕ) (n : List ℕ) (pages : List (Page T)) → is_some (value_of n (keyed name (items_at (home name n pages) pages))) ≡ true
    → LosesOne (entry_at (home name n pages) pages) (stored_refs pages) (stored_refs (unbound_in name n pages))
unbind_takes {T} name n pages held =
    let i = home name n pages in
    let left : List (Page T) = with_page i (taken_out name n (items_at i pages)) pages in
    subst (λ (t : Bool). LosesOne (entry_at i pages) (stored_refs pages) (stored_refs (cond t left pages))) (sym held)
    (page_goes i (taken_out name n (items_at i pages)) pages)
