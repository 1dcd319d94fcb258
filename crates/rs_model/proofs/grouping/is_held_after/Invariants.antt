use Rattle.std.proofs.Common.{◌≡◌, drop}
use Rattle.rs_model.specs.Grouping.{held_after}
use Rattle.rs_model.proofs.grouping.is_held_after.Given as goal

abbrev pub invariant-loop-item : goal.invariant-loop-item
invariant-loop-item l = held_after (drop l.item-index l.items) l.held l.name ≡ held_after l.items l.fn.held l.name
