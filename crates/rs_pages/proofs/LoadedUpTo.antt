-- The invariant of reading pages, one after the other, with a list in memory to take pages from.
use Rattle.std.proofs.Common.{◌≡◌, ℕ, suc, ◌+◌, ◌<◌, ◌≤◌, List, [], ◌∷◌, ◌++◌, length, get_or, take, drop, Some, refl, sym, ap, ◌∙◌, subst, arith, add-one}
use Rattle.std.specs.Prelude.{flat_map, All, IsTrue, is_some, not, filter}
use Rattle.std.specs.List.{list_any, cons_option}
use Rattle.std.proofs.lemmas.List.{append-nil, length-append, map-append, take_all}
use Rattle.std.proofs.lemmas.List.Elements.{All-nil, All-push, filter-append, filter_map-append}
use Rattle.rs_disk.specs.Medium.{DiskState, Medium}
use Rattle.rs_disk.specs.Runs.{RunsReading}
use Rattle.rs_pages.proofs.FromBelow.{reading_none, reading_as, reading_then}
use Rattle.rs_record.specs.Limits.{most_items}
use Rattle.rs_page.specs.declared.place.PageRef.{PageRef}
use Rattle.rs_page.specs.Format.{ItemFormat}
use Rattle.rs_page.specs.Pages.{Page, IsStored, same_page, stored_ref, stored_refs}
use Rattle.rs_page.specs.DiskPages.{IsPage, HoldsNoPage, ArePages, Stands}
use Rattle.rs_page.specs.Laws.{PageHoldsOnce}
use Rattle.rs_pages.specs.Rule.{HaveItems}
use Rattle.rs_pages.specs.Storing.{items_by_page, AreStoredAt, HoldItems, HoldNoItems, ReadsPages, unshared}
use Rattle.rs_pages.proofs.Joined.{joined}
use Rattle.rs_pages.proofs.Writing.{same_at, parted_at, front_at}

-- the number of all items
abbrev sum_of : {T : Type 0} → List (List T) → ℕ
sum_of pages = length (flat_map (λ items. items) pages)

-- The pages of the first k references are read, and leave room for `room` more items. Calls were made for some of these
-- references, and no call failed.
pub record LoadedUpTo {T : Type 0} (format : ItemFormat T) (called : List PageRef → List PageRef) (k room : ℕ) (refs : List PageRef) (beside loaded : List (Page T)) (old new : DiskState) : Type 0 where
  pub refs_are : stored_refs loaded ≡ take k refs
  pub some : HaveItems loaded
  pub are_stored : All IsStored loaded
  pub found : IsTrue new.honest → All (Stands format new.now.seen) beside → ArePages format (take k refs) new.now.seen (items_by_page loaded)
  pub fits : room + sum_of (items_by_page loaded) ≡ most_items
  pub reads : ReadsPages (called (take k refs)) ⊥ old new

-- the number of calls for two lists of references is the sum of the numbers for both
abbrev AreCalled : (List PageRef → List PageRef) → Type 0
AreCalled called = (refs more : List PageRef) → length (called (refs ++ more)) ≡ length (called refs) + length (called more)

-- any reference
pub no_ref : PageRef
no_ref = record { extent = record { first = 0; blocks = 0 }; length = 0; sha256 = [] }

pub all_called : AreCalled (λ refs. refs)
all_called = length-append

pub unshared_called : (others : List PageRef) → AreCalled (λ refs. unshared refs others)
unshared_called others refs more =
    let test = λ (ref : PageRef). not (list_any (same_page ref) others) in
    ap length (filter-append test refs more) ∙ length-append (filter test refs) (filter test more)

-- a run for some references, in which no call failed, and then one for more; both make no more calls than there are in
-- all
reads_then : {A B : Type 0} (refs more all : List PageRef) (old mid new : DiskState) → length refs + length more ≤ length all → (A → B) → (B → A) → ReadsPages refs ⊥ old mid → ReadsPages more A mid new → ReadsPages all B old new
reads_then refs more all old mid new sizes to from one two =
    record { runs = reading_then old mid new (λ failed. failed) one.runs (reading_as mid new to from two.runs); one_each = omega (arith, sizes, one.one_each, two.one_each) }

module _ {T : Type 0} where
  sum_push : (loaded : List (Page T)) (page : Page T) → sum_of (items_by_page (loaded ++ page ∷ [])) ≡ sum_of (items_by_page loaded) + length page.items
  sum_push [] page = omega (arith, ap length (append-nil page.items))
  sum_push (p ∷ loaded) page =
      omega (arith, sum_push loaded page, length-append p.items (flat_map (λ items. items) (items_by_page (loaded ++ page ∷ []))), length-append p.items (flat_map (λ items. items) (items_by_page loaded)))

module _ {T : Type 0} {format : ItemFormat T} where
  pub load_begun : {called : List PageRef → List PageRef} (refs : List PageRef) (beside : List (Page T)) (disk : DiskState) → LoadedUpTo format called 0 most_items refs beside [] disk disk
  load_begun refs beside disk =
      record {
        refs_are = refl;
        some = All-nil (λ (page : Page T). 1 ≤ length page.items);
        are_stored = All-nil (IsStored {T = T});
        found = λ honest stand. tt;
        fits = omega arith;
        reads = record { runs = reading_none disk (λ failed. failed); one_each = omega arith };
      }

  -- pages and one more
  zip_push : (image : List ℕ) (refs : List PageRef) (pages : List (List T)) (ref : PageRef) (items : List T) → ArePages format refs image pages → IsPage format ref image items
      → ArePages format (refs ++ ref ∷ []) image (pages ++ items ∷ [])
  zip_push image [] [] ref items are is = (is, tt)
  zip_push image [] (page ∷ pages) ref items are is = absurd are
  zip_push image (r ∷ refs) [] ref items are is = absurd are
  zip_push image (r ∷ refs) (page ∷ pages) ref items are is = (are.0, zip_push image refs pages ref items are.1 is)

  -- a page among others
  zip_at : (image : List ℕ) (front : List PageRef) (ref : PageRef) (rest : List PageRef) (pages : List (List T)) → ArePages format (front ++ ref ∷ rest) image pages → (items : List T) × IsPage format ref image items
  zip_at image [] ref rest [] are = absurd are
  zip_at image [] ref rest (items ∷ pages) are = (items, are.0)
  zip_at image (f ∷ front) ref rest [] are = absurd are
  zip_at image (f ∷ front) ref rest (items ∷ pages) are = zip_at image front ref rest pages are.1

  -- pages hold no fewer items than some of them that were read
  sum_within : PageHoldsOnce format → (image : List ℕ) (front : List PageRef) (ref : PageRef) (rest : List PageRef) (read : List (List T)) (items : List T) (pages : List (List T)) → ArePages format front image read
      → IsPage format ref image items → ArePages format (front ++ ref ∷ rest) image pages → sum_of read + length items ≤ sum_of pages
  sum_within once image [] ref rest [] items [] of_read of_items of_pages = absurd of_pages
  sum_within once image [] ref rest [] items (page ∷ pages) of_read of_items of_pages =
      let same : length items ≡ length page = ap length (once ref image items page of_items of_pages.0) in
      omega (arith, same, length-append page (flat_map (λ items. items) pages))
  sum_within once image [] ref rest (r ∷ read) items pages of_read of_items of_pages = absurd of_read
  sum_within once image (f ∷ front) ref rest [] items pages of_read of_items of_pages = absurd of_read
  sum_within once image (f ∷ front) ref rest (r ∷ read) items [] of_read of_items of_pages = absurd of_pages
  sum_within once image (f ∷ front) ref rest (r ∷ read) items (page ∷ pages) of_read of_items of_pages =
      let same : length r ≡ length page = ap length (once f image r page of_read.0 of_pages.0) in
      let later = sum_within once image front ref rest read items pages of_read.1 of_items of_pages.1 in
      omega (arith, same, later, length-append r (flat_map (λ items. items) read), length-append page (flat_map (λ items. items) pages))

  -- where one page is damaged, there are no such pages
  pub damaged_at : (k : ℕ) (refs : List PageRef) (d : PageRef) (image : List ℕ) → k < length refs → HoldsNoPage format (get_or refs k d) image → HoldNoItems format refs image
  damaged_at k refs d image inside none pages held =
      let ref : PageRef = get_or refs k d in
      let found = zip_at image (take k refs) ref (drop (suc k) refs) pages
      (subst (λ (rs : List PageRef). ArePages format rs image pages) (parted_at k refs ref inside (same_at refs k d ref inside)) held.hold) in
      none found.0 found.1

  -- all pages are there, and no call failed
  pub load_end : {called : List PageRef → List PageRef} {k room : ℕ} {refs : List PageRef} {beside loaded : List (Page T)} {old new : DiskState} → LoadedUpTo format called k room refs beside loaded old new
      → length refs ≤ k → AreStoredAt refs loaded × ((A : Type 0) → ¬ A → ReadsPages (called refs) A old new)
      × (IsTrue new.honest → All (Stands format new.now.seen) beside → HoldItems format refs new.now.seen (items_by_page loaded))
  load_end {called} {k} {room} {refs} {beside} {loaded} {old} {new} so_far past =
      let all : take k refs ≡ refs = take_all k refs past in (
        record { named = so_far.refs_are ∙ all; stored = so_far.are_stored; room = omega (arith, ap length (joined loaded), so_far.fits) },
        λ A well. let reads = subst (λ (rs : List PageRef). ReadsPages (called rs) ⊥ old new) all so_far.reads in record { runs = reading_as old new (λ failed. absurd failed) well reads.runs; one_each = reads.one_each },
        λ honest stand. record {
          hold = subst (λ (rs : List PageRef). ArePages format rs new.now.seen (items_by_page loaded)) all (so_far.found honest stand);
          room = omega (arith, so_far.fits);
        },
      )

-- The page of the next reference is read. `d` is any reference, for a place past the end.
module _ {T : Type 0} {format : ItemFormat T} {called : List PageRef → List PageRef} {k room : ℕ} {refs : List PageRef} {beside loaded : List (Page T)} {old mid : DiskState} (d : PageRef)
    (so_far : LoadedUpTo format called k room refs beside loaded old mid) (inside : k < length refs) (counted : AreCalled called) where
  next_is : get_or refs k d ≡ get_or refs k (get_or refs k d)
  next_is = same_at refs k d (get_or refs k d) inside

  whole : refs ≡ take k refs ++ get_or refs k d ∷ drop (suc k) refs
  whole = parted_at k refs (get_or refs k d) inside next_is

  front : take (suc k) refs ≡ take k refs ++ get_or refs k d ∷ []
  front = front_at k refs (get_or refs k d) inside next_is

  -- the content of the pages read before stays
  before : {A : Type 0} (new : DiskState) → RunsReading A mid new → IsTrue new.honest → All (Stands format new.now.seen) beside → ArePages format (take k refs) new.now.seen (items_by_page loaded)
  before new runs honest stand =
      let seen : new.now.seen ≡ mid.now.seen = ap (λ (m : Medium). m.seen) runs.now in
      subst (λ (image : List ℕ). ArePages format (take k refs) image (items_by_page loaded)) (sym seen)
      (so_far.found (runs.runs.lasts honest) (subst (λ (image : List ℕ). All (Stands format image) beside) seen stand))

  -- at most one call per reference that is called for, where the page of this one was the last
  pub reads_next : {A B : Type 0} (new : DiskState) → (A → B) → (B → A) → ReadsPages (called (get_or refs k d ∷ [])) A mid new → ReadsPages (called refs) B old new
  reads_next new to from one =
      reads_then (called (take k refs)) (called (get_or refs k d ∷ [])) (called refs) old mid new
      (omega (arith, ap (λ rs. length (called rs)) whole, counted (take k refs) (get_or refs k d ∷ drop (suc k) refs), counted (get_or refs k d ∷ []) (drop (suc k) refs))) to from so_far.reads one

  pub load_step : {A : Type 0} {left : ℕ} (now : List (Page T)) (page : Page T) (new : DiskState) → ¬ A → left + length page.items ≡ room → now ≡ loaded ++ page ∷ []
      → stored_ref page.place ≡ Some (get_or refs k d) → 1 ≤ length page.items
      → (IsTrue new.honest → All (Stands format new.now.seen) beside → IsPage format (get_or refs k d) new.now.seen page.items)
      → ReadsPages (called (get_or refs k d ∷ [])) A mid new → LoadedUpTo format called (k + 1) left refs beside now old new
  load_step {A} {left} now page new well fits pushed entry some found one =
      let ref : PageRef = get_or refs k d in
      let P : Page T → Type 0 = λ p. 1 ≤ length p.items in
      let after : LoadedUpTo format called (suc k) left refs beside (loaded ++ page ∷ []) old new =
      record {
        refs_are =
            filter_map-append (λ (p : Page T). stored_ref p.place) loaded (page ∷ [])
            ∙ ap (λ more. stored_refs loaded ++ cons_option more []) entry ∙ ap (λ rs. rs ++ ref ∷ []) so_far.refs_are ∙ sym front;
        some = All-push P loaded page so_far.some some;
        are_stored = All-push (IsStored {T = T}) loaded page so_far.are_stored (ap is_some entry);
        found = λ honest stand.
            subst (λ (rs : List PageRef). ArePages format rs new.now.seen (items_by_page (loaded ++ page ∷ []))) (sym front)
            (subst (ArePages format (take k refs ++ ref ∷ []) new.now.seen) (sym (map-append (λ (p : Page T). p.items) loaded (page ∷ [])))
            (zip_push new.now.seen (take k refs) (items_by_page loaded) ref page.items (before new one.runs honest stand) (found honest stand)));
        fits = omega (arith, so_far.fits, fits, sum_push loaded page);
        reads = reads_then (called (take k refs)) (called (ref ∷ [])) (called (take (suc k) refs)) old mid new
            (omega (arith, ap (λ rs. length (called rs)) front, counted (take k refs) (ref ∷ []))) well (λ failed. absurd failed) so_far.reads one;
      } in
      subst (λ (ps : List (Page T)). LoadedUpTo format called (k + 1) left refs beside ps old new) (sym pushed)
      (subst (λ (j : ℕ). LoadedUpTo format called j left refs beside (loaded ++ page ∷ []) old new) (sym (add-one k)) after)

  -- where one more page has no room, the pages have too many items in all
  pub too_many : {A : Type 0} (items : List T) (new : DiskState) → PageHoldsOnce format → room < length items → RunsReading A mid new → IsTrue new.honest → All (Stands format new.now.seen) beside
      → IsPage format (get_or refs k d) new.now.seen items → HoldNoItems format refs new.now.seen
  too_many items new once short runs honest stand is_page pages held =
      let image : List ℕ = new.now.seen in
      let most = sum_within once image (take k refs) (get_or refs k d) (drop (suc k) refs) (items_by_page loaded) items pages (before new runs honest stand) is_page
      (subst (λ (rs : List PageRef). ArePages format rs image pages) whole held.hold) in
      omega (arith, so_far.fits, short, most, held.room)
