-- The head, and then the answer.
use Rattle.std.proofs.Common.{◌≡◌, Ok, Err, take, refl, rules}
use Rattle.rs_io.specs.Watch.{seen_by, ends_of}
use Rattle.rs_io.specs.declared.fault.StreamFault.TheVariants.{Read, Write}
use Rattle.rs_http.proofs.Endings.{served, broken, halted, passes}
use Rattle.rs_http.specs.Turn.{turn}
use Rattle.rs_http.proofs.Going.{request_goes}
use Rattle.rs_http.proofs.Replying.{silent_tells, ends_tell}
use Rattle.rs_http.proofs.Running.{still_runs, request_runs}
use Rattle.rs_http.proofs.serve.serve_one.Goals as goal

pub returns-clause-ok : goal.returns-clause-ok
returns-clause-ok g c =
    served _ c.requests_recover.ensures.answered c.requests_recover.ensures.broken c.requests_make_walks.ensures.answered c.requests_make_walks.ensures.broken
    (ends_of g.R.Read.remaining c.args.reader.now c.answer.new.reader g.W.Write.contents c.args.writer.now c.answer.new.writer)
    (seen_by g.R.Read.remaining c.read_head.new.reader) c.in-Some.request (take c.in_ok-read.came c.read_head.new.buf) c.in_ok-read.read
    c.in_ok-read.ensures.ok.1.0 c.in_ok-read.ensures.ok.1.1 c.in_ok-read.ensures.reads.reads c.in_ok-read.ensures.ok.2 c.in_ok-read.ensures.end c.in-Some.ensures c.in_ok-status.status c.in_ok-status.ensures.ends

pub returns-in_err-status-clause-read : goal.returns-in_err-status-clause-read
returns-in_err-status-clause-read g c = λ e.
    let same = passes c.from_residual-in_err-status.result c.in_err-status.field-0.0 c.from_residual-in_err-status.ensures in
    let is : c.in_err-status.field-0.0 ≡ Read = cc in
    broken _ c.requests_recover.ensures.answered c.requests_recover.ensures.broken c.requests_make_walks.ensures.answered c.requests_make_walks.ensures.broken
    (ends_of g.R.Read.remaining c.args.reader.now c.answer.new.reader g.W.Write.contents c.args.writer.now c.answer.new.writer)
    (seen_by g.R.Read.remaining c.read_head.new.reader) c.in-Some.request (take c.in_ok-read.came c.read_head.new.buf) c.in_ok-read.read
    c.in_ok-read.ensures.ok.1.0 c.in_ok-read.ensures.ok.1.1 c.in_ok-read.ensures.reads.reads c.in_ok-read.ensures.ok.2 c.in_ok-read.ensures.end c.in-Some.ensures c.in_err-status.field-0.0 is c.in_err-status.ensures.ends

pub returns-in_err-status-clause-write : goal.returns-in_err-status-clause-write
returns-in_err-status-clause-write g c = λ e.
    let same = passes c.from_residual-in_err-status.result c.in_err-status.field-0.0 c.from_residual-in_err-status.ensures in
    let is : c.in_err-status.field-0.0 ≡ Write = cc in
    halted _ c.requests_recover.ensures.answered c.requests_recover.ensures.broken c.requests_make_walks.ensures.answered c.requests_make_walks.ensures.broken
    (ends_of g.R.Read.remaining c.args.reader.now c.answer.new.reader g.W.Write.contents c.args.writer.now c.answer.new.writer)
    (seen_by g.R.Read.remaining c.read_head.new.reader) c.in-Some.request (take c.in_ok-read.came c.read_head.new.buf) c.in_ok-read.read
    c.in_ok-read.ensures.ok.1.0 c.in_ok-read.ensures.ok.1.1 c.in_ok-read.ensures.reads.reads c.in_ok-read.ensures.ok.2 c.in_ok-read.ensures.end c.in-Some.ensures c.in_err-status.field-0.0 is c.in_err-status.ensures.ends

pub returns-clause-goes_on : goal.returns-clause-goes_on
returns-clause-goes_on g c = request_goes _ c.in-Some.request _ (Ok c.in_ok-status.status) c.in_ok-status.ensures.ends

pub returns-in_err-status-clause-goes_on : goal.returns-in_err-status-clause-goes_on
returns-in_err-status-clause-goes_on g c = request_goes _ c.in-Some.request _ (Err c.in_err-status.field-0.0) c.in_err-status.ensures.ends

pub returns-in_err-read-clause-read : goal.returns-in_err-read-clause-read
returns-in_err-read-clause-read g c = λ is. search rules

pub returns-in_err-read-clause-run : goal.returns-in_err-read-clause-run
returns-in_err-read-clause-run g c = still_runs c.requests_are_runs.ensures.answered c.requests_are_runs.ensures.broken (turn g.D.Disk.state c.args.source.now c.args.now c.args.source.now) refl

pub returns-in_err-read-clause-answered : goal.returns-in_err-read-clause-answered
returns-in_err-read-clause-answered g c =
    silent_tells c.held_sources_rest.ensures.idle c.requests_get_one.ensures.answered c.requests_get_one.ensures.broken (turn g.D.Disk.state c.args.source.now c.args.now c.args.source.now)
    (seen_by g.R.Read.remaining c.args.reader.now) (seen_by g.R.Read.remaining c.read_head.new.reader) (seen_by g.W.Write.contents c.args.writer.now) c.in_err-read.ensures.err.0 c.in_err-read.ensures.err.1 refl

pub returns-in_default-clause-run : goal.returns-in_default-clause-run
returns-in_default-clause-run g c = still_runs c.requests_are_runs.ensures.answered c.requests_are_runs.ensures.broken (turn g.D.Disk.state c.args.source.now c.args.now c.args.source.now) refl

pub returns-in_default-clause-answered : goal.returns-in_default-clause-answered
returns-in_default-clause-answered g c =
    silent_tells c.held_sources_rest.ensures.idle c.requests_get_one.ensures.answered c.requests_get_one.ensures.broken (turn g.D.Disk.state c.args.source.now c.args.now c.args.source.now)
    (seen_by g.R.Read.remaining c.args.reader.now) (seen_by g.R.Read.remaining c.read_head.new.reader) (seen_by g.W.Write.contents c.args.writer.now) (take c.in_ok-read.came c.read_head.new.buf) c.in_ok-read.ensures.ok.1.0 refl

pub returns-clause-run : goal.returns-clause-run
returns-clause-run g c = request_runs c.requests_are_runs.ensures.answered c.requests_are_runs.ensures.broken (turn g.D.Disk.state c.args.source.now c.args.now c.answer.new.source) c.in-Some.request _ (Ok c.in_ok-status.status) c.in_ok-status.ensures.ends

pub returns-clause-answered : goal.returns-clause-answered
returns-clause-answered g c =
    ends_tell c.held_sources_rest.ensures.idle c.requests_get_one.ensures.answered c.requests_get_one.ensures.broken (turn g.D.Disk.state c.args.source.now c.args.now c.answer.new.source)
    (ends_of g.R.Read.remaining c.args.reader.now c.answer.new.reader g.W.Write.contents c.args.writer.now c.answer.new.writer)
    (seen_by g.R.Read.remaining c.read_head.new.reader) c.in-Some.request (take c.in_ok-read.came c.read_head.new.buf) c.in_ok-read.read
    c.in_ok-read.ensures.ok.1.0 c.in-Some.ensures (Ok c.in_ok-status.status) c.in_ok-status.ensures.ends

pub returns-in_err-status-clause-run : goal.returns-in_err-status-clause-run
returns-in_err-status-clause-run g c = request_runs c.requests_are_runs.ensures.answered c.requests_are_runs.ensures.broken (turn g.D.Disk.state c.args.source.now c.args.now c.answer.new.source) c.in-Some.request _ (Err c.in_err-status.field-0.0) c.in_err-status.ensures.ends

pub returns-in_err-status-clause-answered : goal.returns-in_err-status-clause-answered
returns-in_err-status-clause-answered g c =
    ends_tell c.held_sources_rest.ensures.idle c.requests_get_one.ensures.answered c.requests_get_one.ensures.broken (turn g.D.Disk.state c.args.source.now c.args.now c.answer.new.source)
    (ends_of g.R.Read.remaining c.args.reader.now c.answer.new.reader g.W.Write.contents c.args.writer.now c.answer.new.writer)
    (seen_by g.R.Read.remaining c.read_head.new.reader) c.in-Some.request (take c.in_ok-read.came c.read_head.new.buf) c.in_ok-read.read
    c.in_ok-read.ensures.ok.1.0 c.in-Some.ensures (Err c.in_err-status.field-0.0) c.in_err-status.ensures.ends
