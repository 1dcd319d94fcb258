-- The line is taken, and a new one begins.
use Rattle.rs_script.specs.Progress.{stand}
use Rattle.rs_script.proofs.Steps.{take_ok, take_err}
use Rattle.rs_script.proofs.pending.Pending.take_line.Goals as goal

pub returns-clause-ok : goal.returns-clause-ok
returns-clause-ok g c =
    take_ok g.D.Disk.state g.W.Write.contents c.take_content-taken.result c.extend.new.self (stand c.args.self.now c.args.source.now c.args.writer.now)
    (stand (record { between = c.take_content-taken.new.self; line = c.clear.new.self }) c.take_content-taken.new.source c.take_content-taken.new.writer) c.args.run.now
    c.extend.ensures (λ raw kept. c.take_content-taken.ensures.taken _ (c.content-content.ensures raw kept)) c.clear.ensures

pub returns-clause-err : goal.returns-clause-err
returns-clause-err g c =
    take_err g.D.Disk.state g.W.Write.contents c.take_content-taken.result c.extend.new.self (stand c.args.self.now c.args.source.now c.args.writer.now)
    (stand (record { between = c.take_content-taken.new.self; line = c.clear.new.self }) c.take_content-taken.new.source c.take_content-taken.new.writer) c.args.run.now
    c.extend.ensures (λ raw kept. c.take_content-taken.ensures.taken _ (c.content-content.ensures raw kept)) c.take_content-taken.ensures.stopped
