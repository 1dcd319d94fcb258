use Rattle.std.proofs.Common.{arith}
use Rattle.rs_extent.proofs.InTurn.{next_is_used, one_more_given}
use Rattle.rs_extent.proofs.used.Used.give_each.Goals as goal

pub give-requires : goal.give-requires
give-requires c =
    next_is_used c.args.self.now c.loop-i.self c.args.extents.now c.loop-i.i _ (omega arith) (omega arith) c.requires c.loop-i.invariant.given

pub loop-i-preserved : goal.loop-i-preserved
loop-i-preserved c = record {
  few = omega arith;
  given = one_more_given c.args.self.now c.loop-i.self c.give.new.self c.args.extents.now c.loop-i.i _ (omega arith) (omega arith) c.loop-i.invariant.given
      c.give.ensures;
}
