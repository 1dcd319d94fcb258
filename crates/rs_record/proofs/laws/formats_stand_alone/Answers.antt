-- Every format is read, as one value.
use Rattle.rs_record.specs.Format.{record_bytes, change_bytes}
use Rattle.rs_record.specs.Lawful.{IsLawfulRecord, IsLawfulChange}
use Rattle.rs_record.specs.Reading.{record_at, change_at}
use Rattle.rs_record.proofs.FormatLaws.{a_record}
use Rattle.rs_record.proofs.ChangeLaws.{a_change}
use Rattle.rs_record.proofs.Answered.{alone}
use Rattle.rs_record.proofs.laws.formats_stand_alone.Goals as goal

pub returns-clause-records : goal.returns-clause-records
returns-clause-records c = alone record_at record_bytes IsLawfulRecord a_record

pub returns-clause-changes : goal.returns-clause-changes
returns-clause-changes c = alone change_at change_bytes IsLawfulChange a_change
