-- The answer of the source to the command.
use Rattle.std.proofs.Common.{Ok, Err}
use Rattle.rs_script.proofs.AnswerLemmas.{ran}
use Rattle.rs_script.proofs.execute.run_command.Goals as goal

pub returns-in-Ok-clause-answered : goal.returns-in-Ok-clause-answered
returns-in-Ok-clause-answered g c =
    ran g.D.Disk.state c.args.source.now c.command.new.self c.args.command.now c.args.now (Ok c.in-Ok.reply) _ c.in-Ok.ensures c.write_reply.ensures.written

pub returns-in-Err-clause-answered : goal.returns-in-Err-clause-answered
returns-in-Err-clause-answered g c =
    ran g.D.Disk.state c.args.source.now c.command.new.self c.args.command.now c.args.now (Err c.in-Err.refusal) _ c.in-Err.ensures c.write_refusal.ensures.written
