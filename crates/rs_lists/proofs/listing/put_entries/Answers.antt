use Rattle.std.proofs.Common.{◌≡◌, ◌<◌, ◌≤◌, ◌*◌, List, ℕ, length, take, subst, arith}
use Rattle.rs_lists.specs.Text.{joined}
use Rattle.rs_lists.specs.Listed.{parts_in, entries}
use Rattle.rs_lists.proofs.Bounds.{lines_small}
use Rattle.rs_lists.proofs.Lines.{all_entries, entries_next, entries_rest}
use Rattle.rs_lists.proofs.Runs.{in_turn, stops_then}
use Rattle.rs_lists.proofs.listing.put_entries.Goals as goal

pub loop-part-preserved : goal.loop-part-preserved
loop-part-preserved g c =
    let s = g.V.View.shown c.args.view.now in
    let below : c.loop-part.part < parts_in g.L.Listing.list s = rw c.parts-part-end.ensures.value at c.loop-part-test.true in
    let next = entries_next g.L.Listing.list s c.loop-part.part below in
    record {
      taken = in_turn g.met.S.Sink.laws c.loop-part.invariant.taken c.in_ok-put_entry.ensures.puts.took next;
      small = lines_small 276 c.loop-part.part _ _ _ next c.loop-part.invariant.small c.in_ok-put_entry.ensures.small;
    }

pub returns-in_err-put_entry-clause-puts : goal.returns-in_err-put_entry-clause-puts
returns-in_err-put_entry-clause-puts g c =
    let s = g.V.View.shown c.args.view.now in
    let below : c.loop-part.part < parts_in g.L.Listing.list s = rw c.parts-part-end.ensures.value at c.loop-part-test.true in
    stops_then _ g.met.S.Sink.laws c.from_residual.ensures.0 c.loop-part.invariant.taken c.in_err-put_entry.ensures.puts.failed (entries_rest g.L.Listing.list s c.loop-part.part below)

pub returns-clause-puts : goal.returns-clause-puts
returns-clause-puts g c =
    let P : List (List ℕ) → Type 0 = λ xs. g.S.Sink.takes c.args.sink.now c.loop-part.sink (joined xs) in
    record { took = subst P (all_entries g.L.Listing.list (g.V.View.shown c.args.view.now) c.loop-part.part (omega (arith, c.parts-part-end.ensures.value, c.loop-part-test.false))) c.loop-part.invariant.taken; failed = tt }

pub returns-clause-small : goal.returns-clause-small
returns-clause-small g c =
    let l = g.L.Listing.list in
    let s = g.V.View.shown c.args.view.now in
    let all : c.loop-part.part ≡ parts_in l s = omega (arith, c.parts-part-end.ensures.value, c.loop-part-test.false, c.loop-part.auto.part-end) in
    let few : length (joined (take c.loop-part.part (entries l s))) ≤ 276 * parts_in l s = omega (arith, c.loop-part.invariant.small) in
    let P : List (List ℕ) → Type 0 = λ xs. length (joined xs) ≤ 276 * parts_in l s in
    subst P (all_entries l s c.loop-part.part (omega arith)) few
