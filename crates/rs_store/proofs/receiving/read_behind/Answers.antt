-- At most one call, whether the reader had failed before or not.
use Rattle.rs_io.specs.Watch.{is_broken}
use Rattle.rs_store.proofs.ReaderCounts.{one_read}
use Rattle.rs_store.proofs.receiving.read_behind.Goals as goal

pub returns-clause-called : goal.returns-clause-called
returns-clause-called g c = one_read (is_broken c.args.reader.now) c.args.reader.now c.read.new.self c.read.result c.read.ensures.broken c.read.ensures.called
