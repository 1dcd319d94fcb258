use Rattle.std.proofs.Common.{ℕ, ◌≡◌, ◌-◌, ◌≤◌}
use Rattle.std.specs.Int.{bit_at}
use Rattle.rs_extent.specs.Words.{IsSetRun}
use Rattle.rs_extent.proofs.words.run_starts.Given as goal

abbrev pub invariant-loop-starts : goal.invariant-loop-starts
invariant-loop-starts l = record {
  some : 1 ≤ l.length;
  most : l.length ≤ l.n;
  found : (first : ℕ) → bit_at l.starts first ≡ 1 → IsSetRun (bit_at l.word) first l.length;
  all : (first : ℕ) → IsSetRun (bit_at l.word) first l.length → bit_at l.starts first ≡ 1;
}

abbrev pub decreases-loop-starts : goal.decreases-loop-starts
decreases-loop-starts l = l.n - l.length
