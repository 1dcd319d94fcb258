use Rattle.std.proofs.Common.{◌≡◌, drop}
use Rattle.rs_model.specs.Walk.{walk_of}
use Rattle.rs_model.proofs.event.walk.Given as goal

abbrev pub invariant-loop-event : goal.invariant-loop-event
invariant-loop-event l = walk_of l.walked (drop l.event-index l.events) ≡ walk_of l.state l.events
