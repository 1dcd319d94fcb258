use Rattle.std.proofs.Common.{◌≡◌, drop}
use Rattle.rs_model.specs.Step.{mirror_of}
use Rattle.rs_model.proofs.destination.mirror.Given as goal

abbrev pub invariant-loop-change : goal.invariant-loop-change
invariant-loop-change l = mirror_of l.mirrored.items l.at (drop l.change-index l.changes) ≡ mirror_of l.listed l.at l.changes
