-- The connections so far are served.
use Rattle.rs_source.proofs.Connecting.{AreSoFar}
use Rattle.rs_source.proofs.serving.serve_accepted.Given as goal

abbrev pub invariant-loop : goal.invariant-loop
invariant-loop g l = AreSoFar g.D.Disk.state g.L.Listener.accepted l.fn.listener l.fn.source l.counter l.listener l.source
