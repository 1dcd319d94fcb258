use Rattle.std.proofs.Common.{◌≤◌, ◌*◌, ◌-◌, length, arith}
use Rattle.rs_lists.specs.Chunks.{part_at}
use Rattle.rs_lists.specs.Text.{joined}
use Rattle.rs_lists.proofs.Lines.{part_lines, part_is}
use Rattle.rs_lists.proofs.Runs.{puts_four, stops_first_of_four, stops_second_of_four, stops_third_of_four}
use Rattle.rs_lists.proofs.Sizes.{on_value, part_small}
use Rattle.rs_lists.proofs.listing.put_part.Goals as goal

pub returns-in_err-put_part_opening-clause-puts : goal.returns-in_err-put_part_opening-clause-puts
returns-in_err-put_part_opening-clause-puts g c =
    stops_first_of_four _ _ _ g.met.S.Sink.laws c.from_residual.ensures.0 c.in_err-put_part_opening.ensures.puts.failed
    (part_lines g.L.Listing.list (g.V.View.shown c.args.view.now) c.args.part _ _ _ _ _ c.base.ensures c.path.ensures.value c.limit-limit.ensures.value c.len-len.ensures.value c.min-to.ensures)

pub returns-in_err-put_part_bounds-clause-puts : goal.returns-in_err-put_part_bounds-clause-puts
returns-in_err-put_part_bounds-clause-puts g c =
    stops_second_of_four _ _ g.met.S.Sink.laws c.from_residual-in_err-put_part_bounds.ensures.0 c.in_ok-put_part_opening.ensures.puts.took c.in_err-put_part_bounds.ensures.puts.failed
    (part_lines g.L.Listing.list (g.V.View.shown c.args.view.now) c.args.part _ _ _ _ _ c.base.ensures c.path.ensures.value c.limit-limit.ensures.value c.len-len.ensures.value c.min-to.ensures)

pub returns-in_err-put_items-clause-puts : goal.returns-in_err-put_items-clause-puts
returns-in_err-put_items-clause-puts g c =
    stops_third_of_four _ g.met.S.Sink.laws c.from_residual-in_err-put_items.ensures.0 c.in_ok-put_part_opening.ensures.puts.took c.in_ok-put_part_bounds.ensures.puts.took c.in_err-put_items.ensures.puts.failed
    (part_lines g.L.Listing.list (g.V.View.shown c.args.view.now) c.args.part _ _ _ _ _ c.base.ensures c.path.ensures.value c.limit-limit.ensures.value c.len-len.ensures.value c.min-to.ensures)

pub returns-clause-puts : goal.returns-clause-puts
returns-clause-puts g c =
    puts_four g.met.S.Sink.laws c.in_ok-put_part_opening.ensures.puts.took c.in_ok-put_part_bounds.ensures.puts.took c.in_ok-put_items.ensures.puts.took c.put_closing.ensures
    (part_lines g.L.Listing.list (g.V.View.shown c.args.view.now) c.args.part _ _ _ _ _ c.base.ensures c.path.ensures.value c.limit-limit.ensures.value c.len-len.ensures.value c.min-to.ensures)

pub returns-clause-small : goal.returns-clause-small
returns-clause-small g c =
    let l = g.L.Listing.list in
    let s = g.V.View.shown c.args.view.now in
    let n = c.min-to.result - c.args.part * c.limit-limit.result in
    let short : length s.base ≤ 128 = rw c.base.ensures at c.in_ok-put_part_opening.ensures.base in
    let items = part_is (l.items s) c.args.part s.limit c.limit-limit.result c.len-len.result c.min-to.result c.limit-limit.ensures.value c.len-len.ensures.value c.min-to.ensures in
    let text : length (joined (part_at c.args.part s.limit (l.items s))) ≤ 2450 * n = rw items at c.in_ok-put_items.ensures.small in
    on_value c.put_closing.result (part_small l s c.args.part n short c.path.ensures.small c.in_ok-put_part_bounds.ensures.small text (omega (arith, c.min-to.ensures, c.limit-limit.ensures.value, c.limit-limit.ensures.bounds)))
