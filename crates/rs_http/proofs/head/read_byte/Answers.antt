-- One call at most, whether the reader had failed before or not.
use Rattle.rs_io.specs.Watch.{is_broken}
use Rattle.rs_http.proofs.FromBelow.{one_read}
use Rattle.rs_http.proofs.head.read_byte.Goals as goal

pub returns-in_err-count-clause-called : goal.returns-in_err-count-clause-called
returns-in_err-count-clause-called g c = one_read (is_broken c.args.reader.now) c.args.reader.now c.read.new.self c.read.result c.read.ensures.broken c.read.ensures.called

pub returns-then-count-eq0-clause-called : goal.returns-then-count-eq0-clause-called
returns-then-count-eq0-clause-called g c = one_read (is_broken c.args.reader.now) c.args.reader.now c.read.new.self c.read.result c.read.ensures.broken c.read.ensures.called

pub returns-clause-called : goal.returns-clause-called
returns-clause-called g c = one_read (is_broken c.args.reader.now) c.args.reader.now c.read.new.self c.read.result c.read.ensures.broken c.read.ensures.called
