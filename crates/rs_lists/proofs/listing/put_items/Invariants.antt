use Rattle.std.proofs.Common.{◌-◌, ◌*◌, ◌≤◌, length}
use Rattle.rs_lists.specs.Listed.{item_lines}
use Rattle.rs_lists.proofs.listing.put_items.Given as goal

abbrev pub invariant-loop-i : goal.invariant-loop-i
invariant-loop-i g l =
    let text = item_lines g.L.Listing.list (g.V.View.shown l.view) l.from l.i in
    record { taken : g.S.Sink.takes l.fn.sink l.sink text; small : length text ≤ 2450 * (l.i - l.from) }
