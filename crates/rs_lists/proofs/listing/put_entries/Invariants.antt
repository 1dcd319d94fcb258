use Rattle.std.proofs.Common.{◌*◌, ◌≤◌, length, take}
use Rattle.rs_lists.specs.Listed.{entries}
use Rattle.rs_lists.specs.Text.{joined}
use Rattle.rs_lists.proofs.listing.put_entries.Given as goal

abbrev pub invariant-loop-part : goal.invariant-loop-part
invariant-loop-part g l =
    let text = joined (take l.part (entries g.L.Listing.list (g.V.View.shown l.view))) in
    record { taken : g.S.Sink.takes l.fn.sink l.sink text; small : length text ≤ 276 * l.part }
