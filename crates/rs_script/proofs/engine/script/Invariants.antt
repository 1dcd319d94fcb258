-- The bytes that came so far have been taken.
use Rattle.rs_script.specs.Progress.{stand}
use Rattle.rs_script.proofs.Turns.{Turned}
use Rattle.rs_script.proofs.engine.script.Given as goal

abbrev pub invariant-loop : goal.invariant-loop
invariant-loop g l =
    Turned g.D.Disk.state g.R.Read.remaining g.W.Write.contents l.fn.source l.fn.reader l.fn.writer l.counter l.reader (stand l.pending l.source l.writer)
