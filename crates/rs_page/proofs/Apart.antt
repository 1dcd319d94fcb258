-- No format of a record begins another one, and no format of a change does.
use Rattle.rs_record.specs.Format.{record_bytes, change_bytes}
use Rattle.rs_record.specs.Lawful.{IsLawfulRecord, IsLawfulChange}
use Rattle.rs_record.specs.Reading.{record_at, change_at}
use Rattle.rs_page.proofs.FromBelow.{a_record, a_change, alone}
use Rattle.rs_page.specs.Format.{StandAlone}
use Rattle.rs_page.specs.Items.{record_format, change_format}

pub records_apart : StandAlone record_format
records_apart = alone record_at record_bytes IsLawfulRecord a_record

pub changes_apart : StandAlone change_format
changes_apart = alone change_at change_bytes IsLawfulChange a_change
