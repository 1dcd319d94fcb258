-- The pages after the items of a group, and the entries that they lose.
use Rattle.std.proofs.Common.{◌≡◌, ℕ, ◌+◌, List, [], ◌∷◌, ◌++◌, refl, sym, ◌∙◌, ap, Bool, true, false, cond, Option, Some, None}
use Rattle.std.specs.List.{cons_option, list_any}
use Rattle.rs_extent.specs.declared.Extent.{Extent}
use Rattle.rs_record.specs.declared.record.Record.{Record}
use Rattle.rs_page.specs.declared.place.PageRef.{PageRef}
use Rattle.rs_page.specs.Pages.{stored_refs, extents_of, same_page}
use Rattle.rs_page.specs.SharedPages.{KeepsPages, stored_pages}
use Rattle.rs_pages.specs.Entries.{open_entry}
use Rattle.rs_pages.specs.Laws.{Ascend}
use Rattle.rs_pages.specs.Storing.{unshared}
use Rattle.rs_model.specs.Grouping.{name_of}
use Rattle.rs_model.specs.declared.command.Item.{Item}
use Rattle.rs_image.specs.declared.contents.Contents.{Contents}
use Rattle.rs_plan.specs.Drafts.{IsPageRuleKept}
use Rattle.rs_plan.specs.Freed.{entry_of_name, freed_page, freed_history_page, unpublished, extent_of_page}
use Rattle.rs_plan.specs.Placed.{AreUnplaced}
use Rattle.rs_plan.specs.Turned.{extent_for, extents_left, lists_after_item, lists_after_items, of_each_item, MayDoEach}
use Rattle.rs_plan.proofs.Sublists.{itself, among}
use Rattle.rs_plan.proofs.FreedParts.{one_extent}
use Rattle.rs_plan.proofs.ItemSteps.{records_step, keeps_step, unplaced_step, page_lost, history_page_lost}
use Rattle.rs_plan.proofs.Parts.{after_each}
use Rattle.rs_plan.proofs.Losing.{LosesAll, loses_none, loses_more}
use Rattle.std.specs.Prelude.{not}

-- an entry that no published page has is freed before others
freed_by_test : (e : PageRef) (t : Bool) (rest : List PageRef)
    → extents_of (cond (not t) (e ∷ rest) rest) ≡ extent_of_page (cond t None (Some e)) ++ extents_of rest
freed_by_test e true rest = refl
freed_by_test e false rest = refl

pub freed_first : (entry : Option PageRef) (rest published : List PageRef)
    → extents_of (unshared (cons_option entry rest) published) ≡ extent_of_page (unpublished entry published) ++ extents_of (unshared rest published)
freed_first None rest published = refl
freed_first (Some e) rest published = freed_by_test e (list_any (same_page e) published) (unshared rest published)

-- the entries that the pages of the catalogue lose, and those of the history
abbrev pub pages_lost : Contents → List Item → ℕ → List Extent → List PageRef
pages_lost c [] moment bodies = []
pages_lost c (item ∷ items) moment bodies =
    cons_option (entry_of_name c (name_of item))
    (pages_lost (lists_after_item c item moment (extent_for item items bodies)) items (moment + 1) (extents_left item items bodies))

abbrev pub history_pages_lost : Contents → List Item → ℕ → List Extent → List PageRef
history_pages_lost c [] moment bodies = []
history_pages_lost c (item ∷ items) moment bodies =
    cons_option (open_entry c.history.pages)
    (history_pages_lost (lists_after_item c item moment (extent_for item items bodies)) items (moment + 1) (extents_left item items bodies))

-- the freed pages
pub freed_pages : (items : List Item) (c : Contents) (moment : ℕ) (bodies : List Extent)
    → of_each_item freed_page c items moment bodies ≡ extents_of (unshared (pages_lost c items moment bodies) (stored_refs c.published))
freed_pages [] c moment bodies = refl
freed_pages (item ∷ items) c moment bodies =
    let next = lists_after_item c item moment (extent_for item items bodies) in
    let left = extents_left item items bodies in
    ap (λ (l : List Extent). freed_page c (name_of item) ++ l) (freed_pages items next (moment + 1) left)
    ∙ sym (freed_first (entry_of_name c (name_of item)) (pages_lost next items (moment + 1) left) (stored_refs c.published))

pub freed_history_pages : (items : List Item) (c : Contents) (moment : ℕ) (bodies : List Extent)
    → of_each_item freed_history_page c items moment bodies ≡ extents_of (history_pages_lost c items moment bodies)
freed_history_pages [] c moment bodies = refl
freed_history_pages (item ∷ items) c moment bodies =
    let next = lists_after_item c item moment (extent_for item items bodies) in
    let left = extents_left item items bodies in
    ap (λ (l : List Extent). freed_history_page c (name_of item) ++ l) (freed_history_pages items next (moment + 1) left)
    ∙ sym (one_extent (open_entry c.history.pages) (history_pages_lost next items (moment + 1) left))

module _ (law : IsPageRuleKept) where
  -- the pages on the disk are kept, and no page is given blocks
  pub keeps_after : (items : List Item) (c : Contents) (moment : ℕ) (bodies : List Extent) → KeepsPages c.catalogue (lists_after_items c items moment bodies).catalogue
      × KeepsPages c.history.pages (lists_after_items c items moment bodies).history.pages
  keeps_after items c moment bodies =
      after_each (λ x. KeepsPages c.catalogue x.catalogue × KeepsPages c.history.pages x.history.pages) (λ x item at body kept.
      let step = keeps_step law x item at body in
      let next = lists_after_item x item at body in (
        among (stored_pages next.catalogue) (stored_pages x.catalogue) (stored_pages c.catalogue) step.0 kept.0,
        among (stored_pages next.history.pages) (stored_pages x.history.pages) (stored_pages c.history.pages) step.1 kept.1,
      )) items c moment bodies (itself (stored_pages c.catalogue), itself (stored_pages c.history.pages))

  pub unplaced_after : (items : List Item) (c : Contents) (moment : ℕ) (bodies : List Extent) → AreUnplaced c → AreUnplaced (lists_after_items c items moment bodies)
  unplaced_after items c moment bodies none = after_each AreUnplaced (unplaced_step law) items c moment bodies none

  -- all entries are kept but those
  pub loses_pages : (items : List Item) (c : Contents) (moment : ℕ) (bodies : List Extent) → Ascend (λ (r : Record). r.name) c.catalogue → MayDoEach c items moment bodies
      → LosesAll (pages_lost c items moment bodies) (stored_refs c.catalogue) (stored_refs (lists_after_items c items moment bodies).catalogue)
  loses_pages [] c moment bodies ordered may = loses_none (stored_refs c.catalogue)
  loses_pages (item ∷ items) c moment bodies ordered may =
      let body = extent_for item items bodies in
      let left = extents_left item items bodies in
      let next = lists_after_item c item moment body in
      loses_more (entry_of_name c (name_of item)) (stored_refs c.catalogue) (stored_refs next.catalogue) (pages_lost next items (moment + 1) left)
      (stored_refs (lists_after_items next items (moment + 1) left).catalogue) (page_lost law c item moment body ordered may.2)
      (loses_pages items next (moment + 1) left (records_step law item moment body c.catalogue ordered).1 may.3)

  pub loses_history_pages : (items : List Item) (c : Contents) (moment : ℕ) (bodies : List Extent)
      → LosesAll (history_pages_lost c items moment bodies) (stored_refs c.history.pages) (stored_refs (lists_after_items c items moment bodies).history.pages)
  loses_history_pages [] c moment bodies = loses_none (stored_refs c.history.pages)
  loses_history_pages (item ∷ items) c moment bodies =
      let body = extent_for item items bodies in
      let left = extents_left item items bodies in
      let next = lists_after_item c item moment body in
      loses_more (open_entry c.history.pages) (stored_refs c.history.pages) (stored_refs next.history.pages) (history_pages_lost next items (moment + 1) left)
      (stored_refs (lists_after_items next items (moment + 1) left).history.pages) (history_page_lost law c item moment body)
      (loses_history_pages items next (moment + 1) left)
