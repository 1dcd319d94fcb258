-- A line that is a request, and a line that is no request.
use Rattle.rs_script.specs.Requests.{request_of}
use Rattle.rs_script.specs.Room.{TakesRoom}
use Rattle.rs_script.specs.Session.{script_state}
use Rattle.rs_script.proofs.AnswerLemmas.{understood, refused_answered}
use Rattle.rs_script.proofs.execute.answer_line.Goals as goal

pub returns-in-Ok-clause-answered : goal.returns-in-Ok-clause-answered
returns-in-Ok-clause-answered g c =
    understood g.D.Disk.state (script_state c.args.source.now c.args.now.now) (script_state c.answer_request.new.source c.answer_request.new.now) (request_of c.args.line.now) (TakesRoom c.args.line.now)
    c.in-Ok.request _ c.in-Ok.ensures c.answer_request.ensures.answered

pub returns-in-Err-clause-answered : goal.returns-in-Err-clause-answered
returns-in-Err-clause-answered g c =
    refused_answered g.D.Disk.state (script_state c.args.source.now c.args.now.now) (request_of c.args.line.now) (TakesRoom c.args.line.now) c.in-Err.refusal _
    c.in-Err.ensures c.write_refusal.ensures.written
