-- The answer of the source to the read of a body.
use Rattle.std.proofs.Common.{Err}
use Rattle.rs_script.proofs.AnswerLemmas.{was_read, body_shown}
use Rattle.rs_script.proofs.execute.show_body.Goals as goal

pub returns-in-Ok-clause-answered : goal.returns-in-Ok-clause-answered
returns-in-Ok-clause-answered g c =
    body_shown g.D.Disk.state c.args.source.now c.body.new.self c.args.name.now c.args.now c.in-Ok.bytes c.as_slice.result.now _ c.in-Ok.ensures
    c.as_slice.ensures.value c.write_shown.ensures.written

pub returns-in-Err-clause-answered : goal.returns-in-Err-clause-answered
returns-in-Err-clause-answered g c =
    was_read g.D.Disk.state c.args.source.now c.body.new.self c.args.name.now c.args.now (Err c.in-Err.refusal) _ c.in-Err.ensures c.write_refusal.ensures.written
