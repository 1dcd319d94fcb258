-- The word to go on, the answer to the plan, and the flush.
use Rattle.std.proofs.Common.{refl}
use Rattle.rs_io.specs.Watch.{seen_by, ends_of}
use Rattle.rs_io.specs.declared.fault.StreamFault.TheVariants.{Write}
use Rattle.rs_http.proofs.Endings.{finished, passed_on, unsaid, passes}
use Rattle.rs_http.proofs.answer.answer.Goals as goal

pub returns-in_err-write_preface-clause-ends : goal.returns-in_err-write_preface-clause-ends
returns-in_err-write_preface-clause-ends g c =
    rw (passes c.from_residual.result Write c.from_residual.ensures)
    (unsaid c.args.request (ends_of g.R.Read.remaining c.args.reader.now c.args.reader.now g.W.Write.contents c.args.writer.now c.write_preface.new.writer)
    refl refl c.in_err-write_preface.ensures.failed c.in_err-write_preface.ensures.fault)

pub returns-in_err-status-clause-ends : goal.returns-in_err-status-clause-ends
returns-in_err-status-clause-ends g c =
    rw (passes c.from_residual-in_err-status.result c.in_err-status.field-0.0 c.from_residual-in_err-status.ensures)
    (passed_on _ c.args.request c.date_of.result c.date_of.ensures (seen_by g.R.Read.remaining c.args.reader.now) (seen_by g.R.Read.remaining c.respond.new.reader)
    (seen_by g.W.Write.contents c.args.writer.now) (seen_by g.W.Write.contents c.write_preface.new.writer) (seen_by g.W.Write.contents c.respond.new.writer)
    c.in_ok-write_preface.ensures.ok c.in_err-status.field-0.0 c.in_err-status.ensures.ends)

pub returns-clause-ends : goal.returns-clause-ends
returns-clause-ends g c =
    finished _ c.args.request c.date_of.result c.date_of.ensures (seen_by g.R.Read.remaining c.args.reader.now) (seen_by g.R.Read.remaining c.respond.new.reader)
    (seen_by g.W.Write.contents c.args.writer.now) (seen_by g.W.Write.contents c.write_preface.new.writer) (seen_by g.W.Write.contents c.respond.new.writer)
    c.in_ok-write_preface.ensures.ok (seen_by g.W.Write.contents c.finish.new.writer) c.in_ok-status.status c.finish.result c.in_ok-status.ensures.ends
    c.finish.ensures.sound c.finish.ensures.failed c.finish.ensures.bytes c.finish.ensures.flush_failed c.finish.ensures.value
