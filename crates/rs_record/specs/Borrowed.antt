-- Values that were read, at any place in memory.
use Rattle.std.specs.Prelude.{IsTrue}
use Rattle.rs_record.specs.Name.{is_name}
use Rattle.rs_record.specs.MediaType.{is_media_type}
use Rattle.rs_record.specs.Changes.{bound, deleted}
use Rattle.rs_record.specs.declared.change.Change.{Change}
use Rattle.rs_record.specs.declared.facts.Facts.{Facts}
use Rattle.rs_record.specs.declared.record.Record.{Record}
use Rattle.rs_record.specs.declared.borrowed.FactsFields.{FactsFields}
use Rattle.rs_record.specs.declared.borrowed.RecordFields.{RecordFields}
use Rattle.rs_record.specs.declared.borrowed.ChangeFields.{ChangeFields}
use Rattle.rs_record.specs.declared.borrowed.ChangeFields.TheVariants.{Bound, Deleted}

-- the facts
abbrev pub facts_seen : FactsFields → Facts
facts_seen f = record { kind = f.kind.now; length = f.length; digests = f.digests }

-- the record
abbrev pub record_seen : RecordFields → Record
record_seen r =
    record {
      name = r.name.now;
      kind = r.facts.kind.now;
      length = r.facts.length;
      digests = r.facts.digests;
      moment = r.moment;
      extent = r.extent;
    }

-- the change
abbrev pub change_seen : ChangeFields → Change
change_seen (Bound name again moment facts) = bound name.now again moment (facts_seen facts)
change_seen (Deleted name moment) = deleted name.now moment

-- its name and its media type are lawful
abbrev pub AreLawfulTexts : ChangeFields → Type 0
AreLawfulTexts (Bound name again moment facts) = IsTrue (is_name name.now) × IsTrue (is_media_type facts.kind.now)
AreLawfulTexts (Deleted name moment) = IsTrue (is_name name.now)
