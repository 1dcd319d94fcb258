-- A line that is parsed, and the three kinds that are refused at once.
use Rattle.rs_script.specs.declared.line.Content.TheVariants.{Foreign, Refused, TooLong}
use Rattle.rs_script.specs.PartialLine.{IsContent}
use Rattle.rs_script.specs.Session.{script_state}
use Rattle.rs_script.proofs.AnswerLemmas.{bytes_answered, foreign_answered, long_answered, no_room_for_line}
use Rattle.rs_script.proofs.statement.answer_content.Goals as goal

pub returns-in-Bytes-clause-answered : goal.returns-in-Bytes-clause-answered
returns-in-Bytes-clause-answered g c = λ line is.
    bytes_answered g.D.Disk.state (script_state c.args.source.now c.args.now.now)
    (script_state c.answer_line.new.source c.answer_line.new.now) c.in-Bytes.bytes.now line _
    (rw c.in-Bytes.is at is) c.answer_line.ensures.answered

pub returns-in-Foreign-clause-answered : goal.returns-in-Foreign-clause-answered
returns-in-Foreign-clause-answered g c = λ line is.
    let k : IsContent Foreign line = rw c.in-Foreign.is at is in
    foreign_answered g.D.Disk.state (script_state c.args.source.now c.args.now.now) line _
    (k.0, k.1.alone) c.write_refusal.ensures.written

pub returns-in-Refused-clause-answered : goal.returns-in-Refused-clause-answered
returns-in-Refused-clause-answered g c = λ line is.
    let k : IsContent Refused line = rw c.in-Refused.is at is in
    no_room_for_line g.D.Disk.state (script_state c.args.source.now c.args.now.now) line _
    k c.write_refusal-in-Refused.ensures.written

pub returns-in-TooLong-clause-answered : goal.returns-in-TooLong-clause-answered
returns-in-TooLong-clause-answered g c = λ line is.
    let k : IsContent TooLong line = rw c.in-TooLong.is at is in
    long_answered g.D.Disk.state (script_state c.args.source.now c.args.now.now) line _
    k c.write_refusal-in-TooLong.ensures.written
