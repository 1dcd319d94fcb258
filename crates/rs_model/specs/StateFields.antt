-- The source of a state's fields, and the invariant of the fields.
use Rattle.std.specs.Prelude.{map}
use Rattle.rs_model.specs.declared.state.State.TheInside.{Inside}
use Rattle.rs_model.specs.State.{Source}
use Rattle.rs_model.specs.Lawful.{IsLawful}
use Rattle.rs_model.specs.Listed.{entry_of, AreListed}

-- the source of these fields
abbrev pub source_of : Inside → Source
source_of s =
    record {
      base = s.base;
      limit = s.limit;
      start = s.start;
      last = s.last;
      held = s.held.items;
      changes = s.changes.items;
      number = s.number;
      at = s.at;
      listed = map entry_of s.listed.items;
      first = s.first;
      begin = s.begin;
    }

-- a lawful source, and listed records that are those of its entries
pub record AreSoundFields (s : Inside) : Type 0 where
  pub lawful : IsLawful (source_of s)
  pub listed : AreListed s.listed.items
