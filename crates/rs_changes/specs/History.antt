-- A history: changes in the order of their moments, in pages.
use Rattle.std.specs.Prelude.{◌≡◌, ◌≤◌, ◌+◌, ◌-◌, ◌*◌, ℕ, min, IsTrue, List, length, flat_map, slice_get, All, Option}
use Rattle.rs_record.specs.declared.change.Change.{Change}
use Rattle.rs_model.specs.State.{most_changes}
use Rattle.rs_model.specs.Regular.{is_rising}
use Rattle.rs_page.specs.declared.place.PageRef.{PageRef}
use Rattle.rs_page.specs.Items.{change_format}
use Rattle.rs_page.specs.Pages.{Page, items_of}
use Rattle.rs_page.specs.DiskPages.{ArePages}
use Rattle.rs_pages.specs.Dropped.{dropped_front}
use Rattle.rs_time.specs.Moment.{greatest}
use Rattle.rs_pages.specs.Filled.{EndsUnstored as LastStandsUnstored}

-- A history: the number of the first part of the kept changes, which is the number of dropped parts, and the pages of
-- the kept changes.
pub record Numbered : Type 0 where
  pub first : ℕ
  pub pages : List (Page Change)

-- the changes of a list of pages, earliest first
abbrev pub changes_of : List (Page Change) → List Change
changes_of pages = items_of pages

-- the last change, if there is one
abbrev pub last_of : List Change → Option Change
last_of changes = slice_get changes (length changes - 1)

-- The moments strictly rise, and there are at most as many changes as a source keeps.
pub record AreKept (changes : List Change) : Type 0 where
  pub rising : IsTrue (is_rising changes)
  pub room : length changes ≤ most_changes

-- The invariant of the pages of a history: every page has changes, and the moments strictly rise through all pages.
pub record IsHistory (pages : List (Page Change)) : Type 0 where
  pub some : All (λ page. 1 ≤ length page.items) pages
  pub kept : AreKept (changes_of pages)

-- The invariant of a history: its changes are kept, and its first number is at most the number of the greatest moment.
pub record IsNumbered (h : Numbered) : Type 0 where
  pub kept : AreKept (changes_of h.pages)
  pub first : h.first ≤ greatest

-- the history with these pages in place of its own
abbrev pub with_pages : Numbered → List (Page Change) → Numbered
with_pages h pages = record h { pages = pages }

-- the history without its first `count` parts, with `limit` changes per part
abbrev pub without_parts : ℕ → ℕ → Numbered → Numbered
without_parts count limit h = record { first = h.first + count; pages = dropped_front (count * limit) h.pages }

-- Two histories have the same changes and the same number of the first part; the places of their pages may differ.
pub record HaveSameChanges (h other : Numbered) : Type 0 where
  pub changes : changes_of h.pages ≡ changes_of other.pages
  pub first : h.first ≡ other.first

-- the last change is in a page that is not on the disk
abbrev pub EndsUnstored : List (Page Change) → Type 0
EndsUnstored pages = LastStandsUnstored pages

-- The references lead to pages on the disk with these changes, page by page. The moments strictly rise through all
-- pages.
pub record HoldsHistory (refs : List PageRef) (image : List ℕ) (pages : List (List Change)) : Type 0 where
  pub hold : ArePages change_format refs image pages
  pub kept : AreKept (flat_map (λ items. items) pages)

-- The pages of references hold no history.
abbrev pub HoldsNoHistory : List PageRef → List ℕ → Type 0
HoldsNoHistory refs image = (changes : List (List Change)) → ¬ HoldsHistory refs image changes

-- The places of n changes are divided into parts 0, 1, 2, .. with `limit` places per part.
-- The place of part k's first change, which is n if n changes make no part k.
abbrev pub part_start : ℕ → ℕ → ℕ → ℕ
part_start n limit k = min (k * limit) n

-- the place where part k ends: the place of the first change after it, or else n
abbrev pub part_end : ℕ → ℕ → ℕ → ℕ
part_end n limit k = min ((k + 1) * limit) n
