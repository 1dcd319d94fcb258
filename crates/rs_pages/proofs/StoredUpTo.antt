-- The invariant of writing pages, one after the other.
use Rattle.std.proofs.Common.{◌≡◌, ℕ, suc, ◌+◌, ◌<◌, ◌≤◌, List, [], ◌∷◌, ◌++◌, length, get_or, set, take, drop, refl, sym, ap, ap₂, ◌∙◌, subst, add-one}
use Rattle.std.specs.Prelude.{IfSome, All}
use Rattle.std.specs.List.{AllZip}
use Rattle.std.proofs.lemmas.List.{map-append, take-append-drop}
use Rattle.std.proofs.lemmas.List.Elements.{All-nil, All-push}
use Rattle.rs_disk.specs.Medium.{DiskState}
use Rattle.rs_extent.specs.Extents.{AreApart, IsOnDisk, AreOnDisk}
use Rattle.rs_page.specs.Format.{ItemFormat}
use Rattle.rs_page.specs.Pages.{Page, IsTouched, placed_extent, placed_extents, page_stored, stored}
use Rattle.rs_page.specs.DiskPages.{IsWritten}
use Rattle.rs_pages.specs.Storing.{StaysOrIsStored, StoresTouched, StoresSome, WritesPages}
use Rattle.rs_pages.proofs.Writing.{same_at, parted_at, front_at, next_of, front_set, set_itself, none_past, all_taken, writes_none, writes_as, writes_then, writes_more, front_stays, room_at, zip_front, items_zipped}

-- The first k pages are written and stored, and the others are as they were. No call failed.
pub record StoredUpTo {T : Type 0} (format : ItemFormat T) (k : ℕ) (initial pages : List (Page T)) (old new : DiskState) : Type 0 where
  pub done : take k pages ≡ stored format (take k initial)
  pub rest : drop k pages ≡ drop k initial
  pub written : All (IsWritten format new.now.seen) (take k initial)
  pub writes : WritesPages (take k initial) ⊥ old new

module _ {T : Type 0} {format : ItemFormat T} where
  pub begun : (pages : List (Page T)) (disk : DiskState) → StoredUpTo format 0 pages pages disk disk
  begun pages disk = record { done = refl; rest = refl; written = All-nil (IsWritten format disk.now.seen); writes = writes_none disk (λ failed. failed) }

  -- all pages are written
  pub store_end : {k : ℕ} {initial pages : List (Page T)} {old new : DiskState} → StoredUpTo format k initial pages old new → length pages ≤ k
      → StoresTouched format new.now.seen initial pages × WritesPages initial ⊥ old new
  store_end {k} {initial} {pages} {old} {new} so_far past =
      let none : drop k pages ≡ [] = none_past k pages past in
      let all : take k initial ≡ initial = all_taken k initial (sym so_far.rest ∙ none) in (
        record {
          pages = sym (all_taken k pages none) ∙ so_far.done ∙ ap (stored format) all;
          reads = subst (All (IsWritten format new.now.seen)) all so_far.written;
        },
        subst (λ (ps : List (Page T)). WritesPages ps ⊥ old new) all so_far.writes,
      )

-- The page after them is the next one. `d` is any page, for a place past the end.
module _ {T : Type 0} {format : ItemFormat T} {k : ℕ} {initial pages : List (Page T)} {old mid : DiskState} (d : Page T) (so_far : StoredUpTo format k initial pages old mid) (inside : k < length pages) where
  next_is : get_or pages k d ≡ get_or pages k (get_or pages k d)
  next_is = same_at pages k d (get_or pages k d) inside

  next : (k < length initial) × (get_or pages k d ≡ get_or initial k (get_or pages k d)) × (drop (suc k) pages ≡ drop (suc k) initial)
  next = next_of k pages initial (get_or pages k d) inside so_far.rest next_is

  whole : initial ≡ take k initial ++ get_or pages k d ∷ drop (suc k) initial
  whole = parted_at k initial (get_or pages k d) next.0 next.1

  front : take (suc k) initial ≡ take k initial ++ get_or pages k d ∷ []
  front = front_at k initial (get_or pages k d) next.0 next.1

  -- the requirements of its write
  pub next_room : AreOnDisk (placed_extents initial) old.size → IfSome (placed_extent (get_or pages k d).place) (λ e. IsOnDisk e mid.size)
  next_room room = room_at format initial k (get_or pages k d) mid.size next.0 next.1 (subst (AreOnDisk (placed_extents initial)) (sym so_far.writes.writes.runs.runs.size) room)

  pub next_settled : All (λ p. ¬ IsTouched p.place) initial → ¬ IsTouched (get_or pages k d).place
  next_settled settled = subst (λ (p : Page T). ¬ IsTouched p.place) (sym next.1) (settled k (get_or pages k d) next.0)

  -- the pages before it stay written
  front_on : {A : Type 0} (new : DiskState) → AreApart (placed_extents initial) → WritesPages (get_or pages k d ∷ []) A mid new → All (IsWritten format new.now.seen) (take k initial)
  front_on new apart one =
      front_stays format (take k initial) (get_or pages k d) (drop (suc k) initial) mid new (subst (λ (ps : List (Page T)). AreApart (placed_extents ps)) whole apart) one so_far.written

  writes_next : {A : Type 0} (new : DiskState) → WritesPages (get_or pages k d ∷ []) A mid new → WritesPages (take (suc k) initial) A old new
  writes_next {A} new one =
      subst (λ (ps : List (Page T)). WritesPages ps A old new) (sym front) (writes_then (take k initial) (get_or pages k d ∷ []) old mid new (λ failed. failed) so_far.writes one)

  pub store_step : {A : Type 0} (y : Page T) (new : DiskState) → ¬ A → AreApart (placed_extents initial) → WritesPages (get_or pages k d ∷ []) A mid new
      → y ≡ page_stored format (get_or pages k d) → IsWritten format new.now.seen (get_or pages k d) → StoredUpTo format (k + 1) initial (set pages k y) old new
  store_step y new well apart one made reads =
      let after = front_set k pages y inside in
      subst (λ (j : ℕ). StoredUpTo format j initial (set pages k y) old new) (sym (add-one k))
      (record {
        done =
            after.0 ∙ ap₂ (λ ps p. ps ++ p ∷ []) so_far.done made
            ∙ sym (map-append (page_stored format) (take k initial) (get_or pages k d ∷ [])) ∙ ap (stored format) (sym front);
        rest = after.1 ∙ next.2;
        written =
            subst (All (IsWritten format new.now.seen)) (sym front)
            (All-push (IsWritten format new.now.seen) (take k initial) (get_or pages k d) (front_on new apart one) reads);
        writes = writes_as (take (suc k) initial) old new well (λ failed. absurd failed) (writes_next new one);
      })

  -- it ends at a page that was not written
  pub store_stop : {A : Type 0} (y : Page T) (new : DiskState) → AreApart (placed_extents initial) → WritesPages (get_or pages k d ∷ []) A mid new
      → y ≡ get_or pages k d → StoresSome format new.now.seen initial (set pages k y) × WritesPages initial A old new
  store_stop {A} y new apart one made =
      let now : set pages k y ≡ stored format (take k initial) ++ get_or pages k d ∷ drop (suc k) initial =
      ap (set pages k) made ∙ set_itself k pages (get_or pages k d) next_is ∙ parted_at k pages (get_or pages k d) inside next_is
      ∙ ap₂ (λ ps qs. ps ++ get_or pages k d ∷ qs) so_far.done next.2 in
      let each : AllZip (StaysOrIsStored format new.now.seen) initial (set pages k y) =
      subst (λ (ps : List (Page T)). AllZip (StaysOrIsStored format new.now.seen) ps (set pages k y)) (sym whole)
      (subst (AllZip (StaysOrIsStored format new.now.seen) (take k initial ++ get_or pages k d ∷ drop (suc k) initial)) (sym now)
      (zip_front format new.now.seen (take k initial) (get_or pages k d ∷ drop (suc k) initial) (front_on new apart one))) in (
        record { items = items_zipped format new.now.seen initial (set pages k y) each; each = each },
        subst (λ (ps : List (Page T)). WritesPages ps A old new) (take-append-drop (suc k) initial)
            (writes_more (take (suc k) initial) (drop (suc k) initial) old new (writes_next new one)),
      )
