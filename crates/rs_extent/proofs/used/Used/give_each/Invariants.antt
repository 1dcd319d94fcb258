use Rattle.std.proofs.Common.{◌≤◌, length, drop}
use Rattle.rs_extent.specs.Extents.{AreGiven}
use Rattle.rs_extent.proofs.used.Used.give_each.Given as goal

abbrev pub invariant-loop-i : goal.invariant-loop-i
invariant-loop-i l =
    record {
      few : l.i ≤ length l.extents;
      given : AreGiven l.fn.self l.self (drop l.i l.extents);
    }

abbrev pub decreases-loop-i : goal.decreases-loop-i
decreases-loop-i l = l.i
