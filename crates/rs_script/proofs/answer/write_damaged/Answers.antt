-- One name more, and a name whose line failed.
use Rattle.std.proofs.Common.{subst}
use Rattle.rs_io.specs.Watch.{Wrote}
use Rattle.rs_script.proofs.FromBelow.{failed_each, flat_map-next, on_fault, wrote_then}
use Rattle.rs_script.specs.Answers.{damaged_line}
use Rattle.rs_script.proofs.answer.write_damaged.Goals as goal

pub loop-name-preserved : goal.loop-name-preserved
loop-name-preserved g c =
    subst (Wrote g.W.Write.contents c.args.writer.now c.write_damaged_name.new.writer)
    (flat_map-next damaged_line c.args.names.now c.loop-name.name-index c.name-item.result c.loop-name-test.true c.name-item.is)
    (wrote_then g.W.Write.contents c.args.writer.now c.loop-name.writer c.write_damaged_name.new.writer _ _ c.loop-name.invariant c.in_ok-write_damaged_name.ensures.written)

pub returns-in_err-write_damaged_name-clause-fault : goal.returns-in_err-write_damaged_name-clause-fault
returns-in_err-write_damaged_name-clause-fault g c =
    on_fault c.from_residual.result
    (failed_each g.W.Write.contents damaged_line c.args.names.now c.loop-name.name-index c.name-item.result c.args.writer.now c.loop-name.writer c.write_damaged_name.new.writer
    c.loop-name-test.true c.name-item.is c.loop-name.invariant c.in_err-write_damaged_name.ensures.written)
