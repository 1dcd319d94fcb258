use Rattle.std.proofs.Common.{◌≡◌, None}
use Rattle.rs_model.specs.Step.{first_cause, items_causes, after_items}
use Rattle.rs_model.proofs.state.State.group.Given as goal

-- the items that are left are accepted, and lead to where all lead
abbrev pub invariant-loop-item : goal.invariant-loop-item
invariant-loop-item l =
    (first_cause (items_causes l.next l.item-iterator.rest.items l.now) ≡ None)
    × (after_items l.next l.item-iterator.rest.items l.now ≡ after_items l.fn.self l.fn.group l.fn.now)
