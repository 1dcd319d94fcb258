-- A listed resource as a record, which is how a state keeps its latest publication.
use Rattle.std.specs.Prelude.{◌≡◌, ℕ, List, map}
use Rattle.rs_record.specs.declared.record.Record.{Record}
use Rattle.rs_record.specs.Format.{facts_in}
use Rattle.rs_model.specs.declared.value.Entry.{Entry}

-- the record of a listed resource: a publication has no blocks of a disk, so its extent is empty
abbrev pub record_of : List ℕ × Entry → Record
record_of e =
    record {
      name = e.0;
      kind = e.1.facts.kind;
      length = e.1.facts.length;
      digests = e.1.facts.digests;
      moment = e.1.moment;
      extent = record { first = 0; blocks = 0 };
    }

-- the name of a record with its facts and moment
abbrev pub entry_of : Record → List ℕ × Entry
entry_of r = (r.name, record { facts = facts_in r; moment = r.moment })

-- every record is that of its entry, so no record has blocks
abbrev pub AreListed : List Record → Type 0
AreListed records = records ≡ map record_of (map entry_of records)
