-- The meaning of the answer for the bytes.
use Rattle.std.proofs.Common.{arith}
use Rattle.rs_record.specs.Format.{change_bytes}
use Rattle.rs_record.specs.Lawful.{IsLawfulChange}
use Rattle.rs_record.specs.Reading.{change_at as change_read}
use Rattle.rs_record.proofs.ChangeLaws.{a_change}
use Rattle.rs_record.proofs.Answered as answered
use Rattle.rs_record.proofs.change_format.read_change.Goals as goal

pub returns-clause-found : goal.returns-clause-found
returns-clause-found c = answered.found change_read change_bytes IsLawfulChange a_change c.args.bytes.now (λ i. omega (arith, c.type_inv.bytes i)) c.change_of.result c.change_of.ensures

pub returns-clause-only : goal.returns-clause-only
returns-clause-only c = answered.only change_read change_bytes IsLawfulChange a_change c.args.bytes.now (λ i. omega (arith, c.type_inv.bytes i)) c.change_of.result c.change_of.ensures

pub returns-clause-malformed : goal.returns-clause-malformed
returns-clause-malformed c = answered.malformed change_read change_bytes IsLawfulChange a_change c.args.bytes.now (λ i. omega (arith, c.type_inv.bytes i)) c.change_of.result c.change_of.ensures
