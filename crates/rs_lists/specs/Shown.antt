-- The data of a source that a view shows.
use Rattle.std.specs.Prelude.{ℕ, ◌≤◌, List, length}
use Rattle.rs_record.specs.Limits.{most_items}
use Rattle.rs_record.specs.declared.record.Record.{Record}
use Rattle.rs_record.specs.declared.change.Change.{Change}
use Rattle.rs_lists.specs.Chunks.{parts_of}

-- base, item limit, start, publication number, its moment, published records, kept changes, the number of their first
-- part, and the moment at which they begin
pub record Shown : Type 0 where
  pub base : List ℕ
  pub limit : ℕ
  pub start : ℕ
  pub number : ℕ
  pub at : ℕ
  pub published : List Record
  pub changes : List Change
  pub first : ℕ
  pub begin : ℕ

-- the bounds of the data
pub record IsShown (s : Shown) : Type 0 where
  pub low : 2 ≤ s.limit
  pub high : s.limit ≤ 4000
  pub published : length s.published ≤ most_items
  pub changes : length s.changes ≤ most_items
  pub first : s.first ≤ 253402300799999

-- the number of parts that the published records have
abbrev pub resource_parts_of : Shown → ℕ
resource_parts_of s = parts_of (length s.published) s.limit

-- the number of parts that the kept changes have
abbrev pub change_parts_of : Shown → ℕ
change_parts_of s = parts_of (length s.changes) s.limit
