use Rattle.std.proofs.Common.{◌≡◌, ◌≤◌, ◌++◌, drop}
use Rattle.rs_disk.specs.Medium.{filled}
use Rattle.rs_disk.proofs.contents.fill.Given as goal

abbrev pub invariant-loop-i : goal.invariant-loop-i
invariant-loop-i l = record { few : l.next ≤ l.i; rest : l.image.items ++ filled l.choice l.next (drop l.i l.settled) (drop l.i l.unsettled) ≡ filled l.choice 0 l.settled l.unsettled }
