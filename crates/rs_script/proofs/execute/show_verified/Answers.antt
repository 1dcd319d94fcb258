-- The damaged bodies and the number of sound ones, unless the source is closed.
use Rattle.std.proofs.Common.{Err, ◌-◌, ap, ◌∙◌}
use Rattle.rs_script.proofs.AnswerLemmas.{damaged_told, verified_closed, was_verified, is_closed}
use Rattle.rs_script.proofs.execute.show_verified.Goals as goal

pub returns-in-Err-clause-answered : goal.returns-in-Err-clause-answered
returns-in-Err-clause-answered g c =
    verified_closed g.D.Disk.state c.args.source.now c.args.now c.in-Err.closed _ c.in-Err.ensures.only
    (is_closed c.status.result c.in-Err.closed c.args.source.now.is_closed c.in-Err.is c.in-Err.ensures.only c.status.ensures.closed) c.write_refusal.ensures.written

pub returns-in-Ok-verify-clause-answered : goal.returns-in-Ok-verify-clause-answered
returns-in-Ok-verify-clause-answered g c =
    damaged_told g.D.Disk.state c.args.source.now c.verify.new.self c.args.now c.in-Ok-verify.names c.as_slice.result.now (c.in-Ok.status.resources - c.len.result) c.in-Ok.status _
    c.in-Ok-verify.ensures c.as_slice.ensures.value c.in-Ok.ensures.status (ap (λ n. c.in-Ok.status.resources - n) (c.len.ensures ∙ c.in-Ok-verify.names.ok.0)) c.write_verified.ensures.written

pub returns-in-Err-verify-clause-answered : goal.returns-in-Err-verify-clause-answered
returns-in-Err-verify-clause-answered g c =
    was_verified g.D.Disk.state c.args.source.now c.verify.new.self c.args.now (Err c.in-Err-verify.refusal) _ c.in-Err-verify.ensures c.write_refusal-in-Err-verify.ensures.written
