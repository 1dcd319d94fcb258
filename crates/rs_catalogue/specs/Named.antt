-- Records as a map from their names.
use Rattle.std.specs.Prelude.{ℕ, List, map, IsSome}
use Rattle.rs_record.specs.declared.record.Record.{Record}
use Rattle.rs_model.specs.Names.{Names, value_of}

-- the records, paired with their names
abbrev pub named : List Record → Names Record
named records = map (λ r. (r.name, r)) records

-- a record has this name
abbrev pub HasName : List ℕ → List Record → Type 0
HasName name records = IsSome (value_of name (named records))
