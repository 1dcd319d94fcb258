use Rattle.std.proofs.Common.{arith}
use Rattle.rs_changes.specs.History.{changes_of}
use Rattle.rs_image.specs.Whole.{IsSoundChange}
use Rattle.rs_image.proofs.Each.{each_more, each_at_end}
use Rattle.rs_image.proofs.whole.are_sound_changes.Goals as goal

pub loop-i-preserved : goal.loop-i-preserved
loop-i-preserved c =
    each_more (IsSoundChange c.args.low c.args.high) (changes_of c.args.history.now.pages) c.loop-i.i c.at.result.now c.at.ensures c.loop-i.invariant
    (c.is_sound_change.ensures.yes c.if-not-is_sound_change.false)

pub returns-clause-yes : goal.returns-clause-yes
returns-clause-yes c is = each_at_end (IsSoundChange c.args.low c.args.high) (changes_of c.args.history.now.pages) c.loop-i.i (omega arith) c.loop-i.invariant
