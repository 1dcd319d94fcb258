-- The changes of a state after later commands.
use Rattle.std.specs.Prelude.{ℕ, ◌≡◌, ◌≤◌, ◌-◌, ◌*◌, List, ◌++◌, length, take, drop}
use Rattle.rs_record.specs.declared.change.Change.{Change}
use Rattle.rs_record.specs.Changes.{last_moment}
use Rattle.rs_model.specs.State.{Source}

-- the number of changes that the later state has dropped: the parts by which its first number is higher
abbrev pub gone_between : Source → Source → ℕ
gone_between s t = (t.first - s.first) * s.limit

-- The later state has the changes of the earlier one and then more, without the parts that were dropped in between. Its
-- history begins at the moment of the last dropped change, or where it began.
pub record KeepsChanges (s : Source) (more : List Change) (t : Source) : Type 0 where
  pub limit : t.limit ≡ s.limit
  pub first : s.first ≤ t.first
  pub within : gone_between s t ≤ length (s.changes ++ more)
  pub changes : t.changes ≡ drop (gone_between s t) (s.changes ++ more)
  pub begin : t.begin ≡ last_moment s.begin (take (gone_between s t) (s.changes ++ more))
