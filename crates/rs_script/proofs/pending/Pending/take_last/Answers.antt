-- The last line is taken as one more line.
use Rattle.rs_script.specs.Progress.{stand}
use Rattle.rs_script.proofs.Endings.{last_ok, last_err, last_none}
use Rattle.rs_script.proofs.pending.Pending.take_last.Goals as goal

pub returns-then-is_empty-clause-ok : goal.returns-then-is_empty-clause-ok
returns-then-is_empty-clause-ok g c =
    last_none g.D.Disk.state g.W.Write.contents (stand c.args.self.now c.args.source.now c.args.writer.now) (c.is_empty.ensures.empty c.if-is_empty.true)

pub returns-clause-ok : goal.returns-clause-ok
returns-clause-ok g c =
    last_ok g.D.Disk.state g.W.Write.contents c.take_content.result (stand c.args.self.now c.args.source.now c.args.writer.now)
    (stand (record { between = c.take_content.new.self; line = c.args.self.now.line }) c.take_content.new.source c.take_content.new.writer)
    (c.is_empty.ensures.some c.if-is_empty.false) (λ raw kept. c.take_content.ensures.taken _ (c.content-content.ensures raw kept))

pub returns-clause-err : goal.returns-clause-err
returns-clause-err g c =
    last_err g.D.Disk.state g.W.Write.contents c.take_content.result (stand c.args.self.now c.args.source.now c.args.writer.now)
    (stand (record { between = c.take_content.new.self; line = c.args.self.now.line }) c.take_content.new.source c.take_content.new.writer)
    (c.is_empty.ensures.some c.if-is_empty.false) (λ raw kept. c.take_content.ensures.taken _ (c.content-content.ensures raw kept)) c.take_content.ensures.stopped
