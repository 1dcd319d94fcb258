use Rattle.rs_model.specs.State.{Source}
use Rattle.rs_model.specs.Grouping.{IsBefore}
use Rattle.rs_model.proofs.DecidedLemmas.{IsReached}
use Rattle.rs_model.proofs.grouping.group_refusal.Given as goal

abbrev pub invariant-loop-i : goal.invariant-loop-i
invariant-loop-i l = (s : Source) → IsBefore s l.items l.held l.fn.counts → IsReached s l.items l.now l.i l.known
