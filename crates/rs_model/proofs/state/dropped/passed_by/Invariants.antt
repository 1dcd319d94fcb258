use Rattle.std.proofs.Common.{◌≡◌, ◌+◌, drop}
use Rattle.rs_model.specs.Step.{passed_by}
use Rattle.rs_model.proofs.state.dropped.passed_by.Given as goal

abbrev pub invariant-loop-change : goal.invariant-loop-change
invariant-loop-change l =
    (l.passed ≡ l.change-index)
    × (l.passed + passed_by l.moment (drop l.change-index l.changes) ≡ passed_by l.moment l.changes)
