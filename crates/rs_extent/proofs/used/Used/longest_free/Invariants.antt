use Rattle.std.proofs.Common.{ℕ, ◌-◌, ◌≤◌}
use Rattle.rs_extent.specs.Blocks.{IsFreeRun}
use Rattle.rs_extent.proofs.used.Used.longest_free.Given as goal

abbrev pub invariant-loop-served : goal.invariant-loop-served
invariant-loop-served l = record {
  some : (first : ℕ) × IsFreeRun l.self first l.served;
  most : (first n : ℕ) → IsFreeRun l.self first n → n ≤ l.most;
  order : l.served ≤ l.most;
}

abbrev pub decreases-loop-served : goal.decreases-loop-served
decreases-loop-served l = l.most - l.served
