-- The values of a state that the documents of a source show.
use Rattle.std.specs.Prelude.{map}
use Rattle.rs_model.specs.State.{Source}
use Rattle.rs_model.specs.Listed.{record_of}
use Rattle.rs_lists.specs.Shown.{Shown}

-- the latest publication, its resources as their lines show them, and the changes that are kept
abbrev pub shown_of : Source → Shown
shown_of s =
    record {
      base = s.base;
      limit = s.limit;
      start = s.start;
      number = s.number;
      at = s.at;
      published = map record_of s.listed;
      changes = s.changes;
      first = s.first;
      begin = s.begin;
    }
