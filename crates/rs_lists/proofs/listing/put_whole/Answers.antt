use Rattle.std.proofs.Common.{refl, ◌≤◌, ◌*◌, ◌-◌, length, arith}
use Rattle.rs_lists.specs.Text.{joined}
use Rattle.rs_lists.proofs.Lines.{whole_lines, all_items}
use Rattle.rs_lists.proofs.Runs.{puts_four, stops_first_of_four, stops_second_of_four, stops_third_of_four}
use Rattle.rs_lists.proofs.Sizes.{on_value, whole_small}
use Rattle.rs_lists.proofs.listing.put_whole.Goals as goal

pub returns-in_err-put_opening-clause-puts : goal.returns-in_err-put_opening-clause-puts
returns-in_err-put_opening-clause-puts g c =
    stops_first_of_four _ _ _ g.met.S.Sink.laws c.from_residual.ensures.0 c.in_err-put_opening.ensures.puts.failed
    (whole_lines g.L.Listing.list (g.V.View.shown c.args.view.now) _ _ c.base.ensures refl)

pub returns-in_err-put_bounds-clause-puts : goal.returns-in_err-put_bounds-clause-puts
returns-in_err-put_bounds-clause-puts g c =
    stops_second_of_four _ _ g.met.S.Sink.laws c.from_residual-in_err-put_bounds.ensures.0 c.in_ok-put_opening.ensures.puts.took c.in_err-put_bounds.ensures.puts.failed
    (whole_lines g.L.Listing.list (g.V.View.shown c.args.view.now) _ _ c.base.ensures refl)

pub returns-in_err-put_items-clause-puts : goal.returns-in_err-put_items-clause-puts
returns-in_err-put_items-clause-puts g c =
    stops_third_of_four _ g.met.S.Sink.laws c.from_residual-in_err-put_items.ensures.0 c.in_ok-put_opening.ensures.puts.took c.in_ok-put_bounds.ensures.puts.took c.in_err-put_items.ensures.puts.failed
    (whole_lines g.L.Listing.list (g.V.View.shown c.args.view.now) _ _ c.base.ensures c.len.ensures.value)

pub returns-clause-puts : goal.returns-clause-puts
returns-clause-puts g c =
    puts_four g.met.S.Sink.laws c.in_ok-put_opening.ensures.puts.took c.in_ok-put_bounds.ensures.puts.took c.in_ok-put_items.ensures.puts.took c.put_closing.ensures
    (whole_lines g.L.Listing.list (g.V.View.shown c.args.view.now) _ _ c.base.ensures c.len.ensures.value)

pub returns-clause-small : goal.returns-clause-small
returns-clause-small g c =
    let l = g.L.Listing.list in
    let s = g.V.View.shown c.args.view.now in
    let n = c.len.result in
    let short : length s.base ≤ 128 = rw c.base.ensures at c.in_ok-put_opening.ensures.base in
    let text : length (joined (l.items s)) ≤ 2450 * (n - 0) = rw (all_items (l.items s) n c.len.ensures.value) at c.in_ok-put_items.ensures.small in
    on_value c.put_closing.result (whole_small l s (n - 0) short c.in_ok-put_bounds.ensures.small text (omega (arith, c.len.ensures.value, c.requires)))
