use Rattle.std.proofs.Common.{arith}
use Rattle.rs_catalogue.specs.Catalogue.{records_of}
use Rattle.rs_image.specs.Whole.{IsSoundRecord}
use Rattle.rs_image.proofs.Each.{each_more, each_at_end}
use Rattle.rs_image.proofs.whole.are_sound_records.Goals as goal

pub loop-i-preserved : goal.loop-i-preserved
loop-i-preserved c =
    each_more (IsSoundRecord c.args.low c.args.high) (records_of c.args.catalogue.now) c.loop-i.i c.at.result.now c.at.ensures c.loop-i.invariant
    (c.is_sound_record.ensures.yes c.if-not-is_sound_record.false)

pub returns-clause-yes : goal.returns-clause-yes
returns-clause-yes c is = each_at_end (IsSoundRecord c.args.low c.args.high) (records_of c.args.catalogue.now) c.loop-i.i (omega arith) c.loop-i.invariant
