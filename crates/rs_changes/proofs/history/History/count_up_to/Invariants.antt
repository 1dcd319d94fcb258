use Rattle.std.proofs.Common.{◌-◌}
use Rattle.rs_changes.specs.History.{changes_of}
use Rattle.rs_changes.proofs.Passed.{Between}
use Rattle.rs_changes.proofs.history.History.count_up_to.Given as goal

abbrev pub invariant-loop-low : goal.invariant-loop-low
invariant-loop-low l = Between l.low l.high l.moment (changes_of l.self.pages)

abbrev pub decreases-loop-low : goal.decreases-loop-low
decreases-loop-low l = l.high - l.low
