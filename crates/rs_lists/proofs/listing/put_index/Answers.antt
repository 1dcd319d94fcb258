use Rattle.std.proofs.Common.{◌≤◌, length}
use Rattle.rs_lists.proofs.Lines.{index_lines}
use Rattle.rs_lists.proofs.Runs.{puts_four, stops_first_of_four, stops_second_of_four, stops_third_of_four}
use Rattle.rs_lists.proofs.Sizes.{on_value, index_small}
use Rattle.rs_lists.proofs.listing.put_index.Goals as goal

pub returns-in_err-put_opening-clause-puts : goal.returns-in_err-put_opening-clause-puts
returns-in_err-put_opening-clause-puts g c =
    stops_first_of_four _ _ _ g.met.S.Sink.laws c.from_residual.ensures.0 c.in_err-put_opening.ensures.puts.failed
    (index_lines g.L.Listing.list (g.V.View.shown c.args.view.now) _ c.base.ensures)

pub returns-in_err-put_bounds-clause-puts : goal.returns-in_err-put_bounds-clause-puts
returns-in_err-put_bounds-clause-puts g c =
    stops_second_of_four _ _ g.met.S.Sink.laws c.from_residual-in_err-put_bounds.ensures.0 c.in_ok-put_opening.ensures.puts.took c.in_err-put_bounds.ensures.puts.failed
    (index_lines g.L.Listing.list (g.V.View.shown c.args.view.now) _ c.base.ensures)

pub returns-in_err-put_entries-clause-puts : goal.returns-in_err-put_entries-clause-puts
returns-in_err-put_entries-clause-puts g c =
    stops_third_of_four _ g.met.S.Sink.laws c.from_residual-in_err-put_entries.ensures.0 c.in_ok-put_opening.ensures.puts.took c.in_ok-put_bounds.ensures.puts.took c.in_err-put_entries.ensures.puts.failed
    (index_lines g.L.Listing.list (g.V.View.shown c.args.view.now) _ c.base.ensures)

pub returns-clause-puts : goal.returns-clause-puts
returns-clause-puts g c =
    puts_four g.met.S.Sink.laws c.in_ok-put_opening.ensures.puts.took c.in_ok-put_bounds.ensures.puts.took c.in_ok-put_entries.ensures.puts.took c.put_closing.ensures
    (index_lines g.L.Listing.list (g.V.View.shown c.args.view.now) _ c.base.ensures)

pub returns-clause-small : goal.returns-clause-small
returns-clause-small g c =
    let s = g.V.View.shown c.args.view.now in
    let short : length s.base ≤ 128 = rw c.base.ensures at c.in_ok-put_opening.ensures.base in
    on_value c.put_closing.result (index_small g.L.Listing.list s _ short c.in_ok-put_bounds.ensures.small c.in_ok-put_entries.ensures.small c.requires)
