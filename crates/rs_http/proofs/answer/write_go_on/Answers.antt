-- The word is put, and flushed then.
use Rattle.rs_http.proofs.FromBelow.{on_fault}
use Rattle.rs_http.specs.Responses.{go_on}
use Rattle.rs_http.proofs.Endings.{took_part, flushed, unflushed}
use Rattle.rs_http.proofs.answer.write_go_on.Goals as goal

pub returns-in_err-put-clause-fault : goal.returns-in_err-put-clause-fault
returns-in_err-put-clause-fault g c =
    on_fault c.from_residual.result (took_part g.W.Write.contents c.args.writer.now c.put.new.self go_on c.in_err-put.ensures.fault)

pub returns-clause-ok : goal.returns-clause-ok
returns-clause-ok g c =
    flushed g.W.Write.contents c.args.writer.now c.put.new.self c.flush.new.self go_on c.in_ok-put.ensures.ok c.flush.ensures.bytes
    c.flush.result c.flush.ensures.sound

pub returns-clause-fault : goal.returns-clause-fault
returns-clause-fault g c =
    unflushed g.W.Write.contents c.args.writer.now c.put.new.self c.flush.new.self go_on c.in_ok-put.ensures.ok c.flush.ensures.bytes
    c.flush.result c.flush.ensures.flush_failed
