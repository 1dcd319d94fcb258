use Rattle.std.proofs.Common.{arith}
use Rattle.rs_lists.proofs.Bounds.{items_small}
use Rattle.rs_lists.proofs.Lines.{items_next, items_rest}
use Rattle.rs_lists.proofs.Runs.{in_turn, stops_then}
use Rattle.rs_lists.proofs.listing.put_items.Goals as goal

pub loop-i-preserved : goal.loop-i-preserved
loop-i-preserved g c =
    let next = items_next g.L.Listing.list (g.V.View.shown c.args.view.now) c.args.from c.loop-i.i c.loop-i.auto.i (omega (arith, c.loop-i-test.true, c.requires.within)) in
    record {
      taken = in_turn g.met.S.Sink.laws c.loop-i.invariant.taken c.in_ok-put_item.ensures.puts.took next;
      small = items_small _ _ _ _ _ _ c.loop-i.auto.i next c.loop-i.invariant.small c.in_ok-put_item.ensures.small;
    }

pub returns-in_err-put_item-clause-puts : goal.returns-in_err-put_item-clause-puts
returns-in_err-put_item-clause-puts g c =
    stops_then _ g.met.S.Sink.laws c.from_residual.ensures.0 c.loop-i.invariant.taken c.in_err-put_item.ensures.puts.failed
    (items_rest g.L.Listing.list (g.V.View.shown c.args.view.now) c.args.from c.loop-i.i c.args.to c.loop-i.auto.i c.loop-i-test.true c.requires.within)
