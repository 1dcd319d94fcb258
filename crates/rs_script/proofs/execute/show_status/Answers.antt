-- The source is counted, unless it is closed.
use Rattle.rs_script.proofs.AnswerLemmas.{counted_answered, counted_closed, is_open, is_closed}
use Rattle.rs_script.proofs.execute.show_status.Goals as goal

pub returns-in-Ok-clause-answered : goal.returns-in-Ok-clause-answered
returns-in-Ok-clause-answered g c =
    counted_answered g.D.Disk.state c.args.source.now c.args.now c.in-Ok.status _
    (is_open c.status.result c.in-Ok.status c.args.source.now.is_closed c.in-Ok.is c.status.ensures.closed) c.in-Ok.ensures.status c.write_status.ensures.written

pub returns-in-Err-clause-answered : goal.returns-in-Err-clause-answered
returns-in-Err-clause-answered g c =
    counted_closed g.D.Disk.state c.args.source.now c.args.now c.in-Err.refusal _ c.in-Err.ensures.only
    (is_closed c.status.result c.in-Err.refusal c.args.source.now.is_closed c.in-Err.is c.in-Err.ensures.only c.status.ensures.closed) c.write_refusal.ensures.written
