-- Pages on the disk, found by their entries.
use Rattle.std.proofs.Common.{◌≡◌, ⊎_elim, ℕ, zero, suc, ◌+◌, ◌<◌, ◌≤◌, Bool, true, false, ◌||◌, List, [], ◌∷◌, ◌++◌, length, get_or, take, Option, Some, None, Ok, Err, refl, sym, ap, ◌∙◌, subst, arith, add-one}
use Rattle.std.specs.Prelude.{map, All, slice_get, nat_eq, bytes_eq, ◌&&◌}
use Rattle.std.specs.declared.cmp.Ordering.{Ordering}
use Rattle.std.specs.Cmp.{IsTotalOrder}
use Rattle.std.specs.List.{list_any, Contains}
use Rattle.std.specs.List.Sorted.{IsPermutation, IsSortedByKey, IsBinarySearchResult}
use Rattle.std.specs.Ordering.{is_eq, eq_by_cmp}
use Rattle.std.proofs.lemmas.Bool.{cases_lt}
use Rattle.std.proofs.lemmas.Bool.Decides.{nat_tests}
use Rattle.std.proofs.lemmas.Cmp.{eq_by_cmp_equiv}
use Rattle.std.specs.List.{cons_option}
use Rattle.std.proofs.Math.Seq.{take-length}
use Rattle.std.proofs.lemmas.Option.{slice_get-get_or}
use Rattle.std.proofs.lemmas.List.{append-nil, map-append}
use Rattle.std.proofs.lemmas.List.Elements.{All-nil, All-push, All-contains, Contains-get_or, filter_map-append}
use Rattle.std.proofs.lemmas.List.Folds.{list_any_none}
use Rattle.std.proofs.lemmas.List.Sorted.{searchable_from_sorted, list_any-IsPermutation, IsPermutation-map, IsPermutation-trans, IsPermutation-refl, All-permutation}
use Rattle.std.proofs.lemmas.Slice.Eq.{bytes_eq-Decides}
use Rattle.rs_page.specs.declared.place.PageRef.{PageRef}
use Rattle.rs_page.specs.Pages.{Page, same_page, stored_ref, stored_refs}
use Rattle.rs_pages.specs.declared.beside.EntryAt.{EntryAt}
use Rattle.rs_pages.specs.Entries.{entry_at}
use Rattle.rs_pages.specs.Beside.{AreEntries}
use Rattle.rs_pages.proofs.FoundEntries.{entry_at_some}
use Rattle.rs_pages.proofs.Writing.{front_at}

-- parts of a test that holds
first_so : (a b : Bool) → (a && b) ≡ true → a ≡ true
first_so true b h = refl
first_so false b h = h

second_so : (a b : Bool) → (a && b) ≡ true → b ≡ true
second_so true b h = h
second_so false b h = absurd cc

same_number : (m n : ℕ) → nat_eq m n ≡ true → m ≡ n
same_number m n h = grind (arith, nat_tests)

-- entries that are the same page's are equal
pub same_entry : (a b : PageRef) → same_page a b ≡ true → a ≡ b
same_entry a b h =
    let firsts = nat_eq a.extent.first b.extent.first in
    let blocks = nat_eq a.extent.blocks b.extent.blocks in
    let lengths = nat_eq a.length b.length in
    let digests = bytes_eq a.sha256 b.sha256 in
    let places : (firsts && blocks && lengths) ≡ true = first_so (firsts && blocks && lengths) digests h in
    let extents : (firsts && blocks) ≡ true = first_so (firsts && blocks) lengths places in
    let first : a.extent.first ≡ b.extent.first = same_number a.extent.first b.extent.first (first_so firsts blocks extents) in
    let many : a.extent.blocks ≡ b.extent.blocks = same_number a.extent.blocks b.extent.blocks (second_so firsts blocks extents) in
    let long : a.length ≡ b.length = same_number a.length b.length (second_so (firsts && blocks) lengths places) in
    let digest : a.sha256 ≡ b.sha256 = (bytes_eq-Decides a.sha256 b.sha256).0 (second_so (firsts && blocks && lengths) digests h) in
    λ i. record { extent = record { first = first i; blocks = many i }; length = long i; sha256 = digest i }

-- a test of three parts, however they are grouped
pub grouped : (a b c : Bool) → (a && b && c) ≡ (a && (b && c))
grouped true b c = refl
grouped false b c = refl

-- elements are equal exactly where the order answers Equal for them, in either direction
pub level : {K : Type 0} {E : K → K → Bool} {R : K → K → Ordering} → IsTotalOrder R → ((x y : K) → E x y ≡ eq_by_cmp R x y) → (x y : K) → E x y ≡ is_eq (R y x)
level total ties x y = ties x y ∙ (eq_by_cmp_equiv total).symm x y

-- a test of the keys
any_key : {X K : Type 0} (key : X → K) (test : K → Bool) (xs : List X) → list_any test (map key xs) ≡ list_any (λ x. test (key x)) xs
any_key key test [] = refl
any_key key test (x ∷ xs) = ap (λ b. test (key x) || b) (any_key key test xs)

-- after a search by keys that found no element, no key passes a test that holds exactly of the keys that are level
pub none_found : {X K : Type 0} (R : K → K → Ordering) → IsTotalOrder R → (key : X → K) (test : K → Bool) (x : K) → ((y : K) → test y ≡ is_eq (R y x)) → (xs : List X) (i : ℕ)
    → IsSortedByKey key R xs → IsBinarySearchResult (λ y. R (key y) x) xs (Err i) → list_any test (map key xs) ≡ false
none_found R total key test x tests xs i sorted found =
    let parts = found (searchable_from_sorted total key xs x sorted) in
    any_key key test xs ∙ list_any_none (λ y. test (key y)) xs (λ k d lt. tests (key (get_or xs k d))
    ∙ ⊎_elim (λ (before : k < i). ap is_eq (parts.0 k d (omega arith) before)) (λ (behind : i ≤ k). ap is_eq (parts.1 k d behind lt)) (cases_lt k i))

-- a key that was found is equal to the one that was searched
pub found_level : {X K : Type 0} {E : K → K → Bool} {R : K → K → Ordering} → IsTotalOrder R → ((x y : K) → E x y ≡ eq_by_cmp R x y) → (key : X → K) (x : K) (xs : List X) (i : ℕ) (d : X)
    → IsBinarySearchResult (λ y. R (key y) x) xs (Ok i) → E x (key (get_or xs i d)) ≡ true
found_level total ties key x xs i d found = level total ties x (key (get_or xs i d)) ∙ ap is_eq (found d)

-- an entry that was found, with its place
pub told : (entries : List EntryAt) (i : ℕ) (d : EntryAt) (entry : PageRef) → i < length entries → same_page entry (get_or entries i d).entry ≡ true
    → Contains entries (record { entry = entry; place = (get_or entries i d).place })
told entries i d entry inside same =
    let at : EntryAt = get_or entries i d in
    subst (λ (e : PageRef). Contains entries (record { entry = e; place = at.place })) (sym (same_entry entry at.entry same)) (Contains-get_or entries i d inside)

module _ {T : Type 0} where
  -- a search among the entries fails only where no page on the disk has the entry
  pub no_page : (pages : List (Page T)) (entries : List EntryAt) (entry : PageRef) → AreEntries pages entries
      → list_any (same_page entry) (map (λ at. at.entry) entries) ≡ false → list_any (same_page entry) (stored_refs pages) ≡ false
  no_page pages entries entry are none = list_any-IsPermutation (same_page entry) (stored_refs pages) (map (λ at. at.entry) entries) are.all ∙ none

  -- an entry is that of the page at its place
  pub page_there : (pages : List (Page T)) (entries : List EntryAt) (entry : PageRef) (place : ℕ) → AreEntries pages entries
      → Contains entries (record { entry = entry; place = place }) → entry_at place pages ≡ Some entry
  page_there pages entries entry place are among =
      All-contains (λ (at : EntryAt). entry_at at.place pages ≡ Some at.entry) entries (record { entry = entry; place = place }) are.placed among

  -- there is a page at the place of an entry, ..
  pub page_inside : (pages : List (Page T)) (i : ℕ) (entry : PageRef) → entry_at i pages ≡ Some entry → i < length pages
  page_inside [] i entry is = absurd cc
  page_inside (page ∷ pages) zero entry is = omega arith
  page_inside (page ∷ pages) (suc i) entry is = let inside = page_inside pages i entry is in omega (arith, inside)

  -- .. which has it
  pub has_entry : (pages : List (Page T)) (i : ℕ) (page : Page T) (entry : PageRef) → entry_at i pages ≡ Some entry → page ≡ get_or pages i page → stored_ref page.place ≡ Some entry
  has_entry pages i page entry is there =
      let inside : i < length pages = page_inside pages i entry is in
      sym (entry_at_some i pages page (slice_get-get_or pages i page inside ∙ ap Some (sym there))) ∙ is

  -- Entries of the pages before k, in their order.
  pub record EntriesUpTo (k : ℕ) (pages : List (Page T)) (entries : List EntryAt) : Type 0 where
    pub placed : All (λ at. entry_at at.place pages ≡ Some at.entry) entries
    pub before : map (λ at. at.entry) entries ≡ stored_refs (take k pages)

  pub entries_begun : (pages : List (Page T)) → EntriesUpTo 0 pages []
  entries_begun pages = record { placed = All-nil (λ (at : EntryAt). entry_at at.place pages ≡ Some at.entry); before = refl }

  pub entries_done : (pages : List (Page T)) (entries : List EntryAt) (k : ℕ) → k ≡ length pages → EntriesUpTo k pages entries → AreEntries pages entries
  entries_done pages entries k end up =
      let all : take k pages ≡ pages = ap (λ n. take n pages) end ∙ take-length pages in
      record {
        placed = up.placed;
        all = subst (IsPermutation (stored_refs pages)) (ap stored_refs (sym all) ∙ sym up.before) (IsPermutation-refl (stored_refs pages));
      }

  refs_on : (k : ℕ) (pages : List (Page T)) (page : Page T) (o : Option PageRef) → k < length pages → page ≡ get_or pages k page → o ≡ stored_ref page.place
      → stored_refs (take (k + 1) pages) ≡ stored_refs (take k pages) ++ cons_option o []
  refs_on k pages page o inside at is =
      ap (λ n. stored_refs (take n pages)) (add-one k) ∙ ap stored_refs (front_at k pages page inside at)
      ∙ filter_map-append (λ (p : Page T). stored_ref p.place) (take k pages) (page ∷ []) ∙ ap (λ o. stored_refs (take k pages) ++ cons_option o []) (sym is)

  -- a page on the disk is one more of them
  pub one_entry : (k : ℕ) (pages : List (Page T)) (page : Page T) (entry : PageRef) (entries now : List EntryAt) → k < length pages → page ≡ get_or pages k page → Some entry ≡ stored_ref page.place
      → now ≡ entries ++ record { entry = entry; place = k } ∷ [] → EntriesUpTo k pages entries → EntriesUpTo (k + 1) pages now
  one_entry k pages page entry entries now inside here is pushed up =
      let at : EntryAt = record { entry = entry; place = k } in
      let there : slice_get pages k ≡ Some page = slice_get-get_or pages k page inside ∙ ap Some (sym here) in
      let P : EntryAt → Type 0 = λ at. entry_at at.place pages ≡ Some at.entry in
      let more : EntriesUpTo (k + 1) pages (entries ++ at ∷ []) =
      record {
        placed = All-push P entries at up.placed (entry_at_some k pages page there ∙ sym is);
        before = map-append (λ (a : EntryAt). a.entry) entries (at ∷ []) ∙ ap (λ refs. refs ++ entry ∷ []) up.before ∙ sym (refs_on k pages page (Some entry) inside here is);
      } in
      subst (EntriesUpTo (k + 1) pages) (sym pushed) more

  -- any other page is none
  pub no_entry : (k : ℕ) (pages : List (Page T)) (page : Page T) (entries now : List EntryAt) → k < length pages → page ≡ get_or pages k page → None ≡ stored_ref page.place
      → now ≡ entries → EntriesUpTo k pages entries → EntriesUpTo (k + 1) pages now
  no_entry k pages page entries now inside here is same up =
      let more : EntriesUpTo (k + 1) pages entries =
      record {
        placed = up.placed;
        before = up.before ∙ sym (append-nil (stored_refs (take k pages))) ∙ sym (refs_on k pages page None inside here is);
      } in
      subst (EntriesUpTo (k + 1) pages) (sym same) more

  -- entries in another order
  pub in_order : (pages : List (Page T)) (old new : List EntryAt) → IsPermutation old new → AreEntries pages old → AreEntries pages new
  in_order pages old new same are =
      record {
        placed = All-permutation (λ (at : EntryAt). entry_at at.place pages ≡ Some at.entry) old new same are.placed;
        all = IsPermutation-trans (stored_refs pages) (map (λ at. at.entry) old) (map (λ at. at.entry) new) are.all (IsPermutation-map (λ (at : EntryAt). at.entry) old new same);
      }
