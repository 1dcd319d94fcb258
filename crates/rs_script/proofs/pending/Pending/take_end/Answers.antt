-- A group that lacks a line is refused.
use Rattle.std.proofs.Common.{◌≡◌, Result, Ok, Err, OnErr}
use Rattle.rs_io.specs.declared.watch.Watched.{Watched}
use Rattle.rs_io.specs.Watch.{failures, EndFailed}
use Rattle.rs_script.proofs.FromBelow.{later_fault}
use Rattle.rs_script.specs.Progress.{stand}
use Rattle.rs_script.proofs.Endings.{end_whole, cut_ok, cut_err}
use Rattle.rs_script.proofs.pending.Pending.take_end.Goals as goal

failed_later : {T E W : Type 0} (result : Result T E) (a b c : Watched W) → failures b ≡ failures a → OnErr result (EndFailed b c) → OnErr result (EndFailed a c)
failed_later (Ok x) a b c same failed = tt
failed_later (Err e) a b c same failed = later_fault a b c same failed

pub returns-in-Some-clause-ok : goal.returns-in-Some-clause-ok
returns-in-Some-clause-ok g c =
    cut_ok g.D.Disk.state g.W.Write.contents c.write_refusal.result (stand c.args.self.now c.args.source.now c.args.writer.now)
    (stand c.take_last.new.self c.take_last.new.source c.take_last.new.writer) c.write_refusal.new.writer c.in-Some.field-0 c.in-Some.is c.in_ok-take_last.ensures.ok c.write_refusal.ensures.written

pub returns-in-Some-clause-err : goal.returns-in-Some-clause-err
returns-in-Some-clause-err g c =
    cut_err g.D.Disk.state g.W.Write.contents c.write_refusal.result (stand c.args.self.now c.args.source.now c.args.writer.now)
    (stand c.take_last.new.self c.take_last.new.source c.take_last.new.writer) c.write_refusal.new.writer c.in-Some.field-0 c.in-Some.is c.in_ok-take_last.ensures.ok c.write_refusal.ensures.written

pub returns-in-Some-clause-failed : goal.returns-in-Some-clause-failed
returns-in-Some-clause-failed g c = failed_later c.write_refusal.result c.args.writer.now c.take_last.new.writer c.write_refusal.new.writer c.in_ok-take_last.ensures.sound c.write_refusal.ensures.failed

pub returns-in-None-clause-ok : goal.returns-in-None-clause-ok
returns-in-None-clause-ok g c =
    end_whole g.D.Disk.state g.W.Write.contents (stand c.args.self.now c.args.source.now c.args.writer.now)
    (stand c.take_last.new.self c.take_last.new.source c.take_last.new.writer) c.in-None.is c.in_ok-take_last.ensures.ok
