-- The laws that the types keep for their fields.
use Rattle.std.specs.Prelude.{◌≡◌, ◌<◌, ◌^◌, length, IsTrue, IfSome}
use Rattle.rs_time.specs.Moment.{IsMoment}
use Rattle.rs_record.specs.Name.{is_name}
use Rattle.rs_record.specs.MediaType.{is_media_type}
use Rattle.rs_record.specs.Format.{facts_in}
use Rattle.rs_record.specs.declared.facts.Facts.{Facts}
use Rattle.rs_record.specs.declared.record.Record.{Record}
use Rattle.rs_record.specs.declared.change.Change.{Change}

-- the fields of facts
pub record IsLawfulFacts (f : Facts) : Type 0 where
  pub kind : IsTrue (is_media_type f.kind)
  pub len : f.length < 2 ^ 32
  pub md5 : length f.digests.md5 ≡ 16
  pub sha256 : length f.digests.sha256 ≡ 32

-- the fields of a record
pub record IsLawfulRecord (r : Record) : Type 0 where
  pub name : IsTrue (is_name r.name)
  pub facts : IsLawfulFacts (facts_in r)
  pub moment : IsMoment r.moment
  pub first : r.extent.first < 2 ^ 32
  pub blocks : r.extent.blocks < 2 ^ 32

-- the fields of a change
pub record IsLawfulChange (c : Change) : Type 0 where
  pub name : IsTrue (is_name c.name)
  pub moment : IsMoment c.moment
  pub facts : IfSome c.facts IsLawfulFacts
