-- The meaning of the answer for the bytes.
use Rattle.std.proofs.Common.{arith}
use Rattle.rs_record.specs.Format.{record_bytes}
use Rattle.rs_record.specs.Lawful.{IsLawfulRecord}
use Rattle.rs_record.specs.Reading.{record_at as record_read}
use Rattle.rs_record.proofs.FormatLaws.{a_record}
use Rattle.rs_record.proofs.Answered as answered
use Rattle.rs_record.proofs.record_format.read_record.Goals as goal

pub returns-clause-found : goal.returns-clause-found
returns-clause-found c = answered.found record_read record_bytes IsLawfulRecord a_record c.args.bytes.now (λ i. omega (arith, c.type_inv.bytes i)) c.record_of.result c.record_of.ensures

pub returns-clause-only : goal.returns-clause-only
returns-clause-only c = answered.only record_read record_bytes IsLawfulRecord a_record c.args.bytes.now (λ i. omega (arith, c.type_inv.bytes i)) c.record_of.result c.record_of.ensures

pub returns-clause-malformed : goal.returns-clause-malformed
returns-clause-malformed c = answered.malformed record_read record_bytes IsLawfulRecord a_record c.args.bytes.now (λ i. omega (arith, c.type_inv.bytes i)) c.record_of.result c.record_of.ensures
