use Rattle.std.proofs.Common.{ℕ, suc, ◌<◌}
use Rattle.rs_record.specs.declared.change.Change.{Change}
use Rattle.rs_page.specs.Pages.{items_of}
use Rattle.rs_changes.proofs.Rising.{Rises}
use Rattle.rs_changes.proofs.storing.is_rising.Given as goal

abbrev pub invariant-loop-i : goal.invariant-loop-i
invariant-loop-i l = (k : ℕ) (d : Change) → suc k < l.i → Rises (items_of l.changes) k d
