-- Every request, as its own function answers it.
use Rattle.rs_script.proofs.FromBelow.{writes_either}
use Rattle.rs_script.specs.Answers.{outcome_text}
use Rattle.rs_script.specs.Session.{moment_set}
use Rattle.rs_script.proofs.AnswerLemmas.{moment_answered}
use Rattle.rs_script.proofs.execute.answer_request.Goals as goal

pub returns-in-At-clause-answered : goal.returns-in-At-clause-answered
returns-in-At-clause-answered g c =
    rw c.in-At.is (moment_answered g.D.Disk.state c.args.source.now c.args.now.now c.in-At.moment _
    (writes_either g.W.Write.contents c.put.result c.args.writer.now c.put.new.self (outcome_text moment_set) c.put.ensures.ok c.put.ensures.fault))

pub returns-in-Run-clause-answered : goal.returns-in-Run-clause-answered
returns-in-Run-clause-answered g c = rw c.in-Run.is c.run_command.ensures.answered

pub returns-in-Document-clause-answered : goal.returns-in-Document-clause-answered
returns-in-Document-clause-answered g c = rw c.in-Document.is c.show_document.ensures.answered

pub returns-in-Body-clause-answered : goal.returns-in-Body-clause-answered
returns-in-Body-clause-answered g c = rw c.in-Body.is c.show_body.ensures.answered

pub returns-in-Status-clause-answered : goal.returns-in-Status-clause-answered
returns-in-Status-clause-answered g c = rw c.in-Status.is c.show_status.ensures.answered

pub returns-in-Verify-clause-answered : goal.returns-in-Verify-clause-answered
returns-in-Verify-clause-answered g c = rw c.in-Verify.is c.show_verified.ensures.answered
