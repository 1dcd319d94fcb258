use Rattle.std.proofs.Common.{arith}
use Rattle.rs_extent.proofs.InTurn.{next_is_free, one_more_taken}
use Rattle.rs_extent.proofs.used.Used.take_each.Goals as goal

pub take-requires : goal.take-requires
take-requires c =
    next_is_free c.args.self.now c.loop-i.self c.args.extents.now c.loop-i.i _ (omega arith) (omega arith) c.requires c.loop-i.invariant.taken

pub loop-i-preserved : goal.loop-i-preserved
loop-i-preserved c = record {
  few = omega arith;
  taken = one_more_taken c.args.self.now c.loop-i.self c.take.new.self c.args.extents.now c.loop-i.i _ (omega arith) (omega arith) c.requires c.loop-i.invariant.taken
      c.take.ensures;
}
