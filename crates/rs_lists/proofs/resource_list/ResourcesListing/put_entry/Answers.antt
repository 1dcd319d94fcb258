use Rattle.std.proofs.Common.{◌∙◌, ◌≤◌, length, arith}
use Rattle.rs_lists.proofs.Bounds.{base_length, resource_entry_small}
use Rattle.rs_lists.proofs.Runs.{puts_same}
use Rattle.rs_lists.proofs.Items.{resource_entry_pieces}
use Rattle.rs_lists.proofs.resource_list.ResourcesListing.put_entry.Goals as goal

pub returns-clause-puts : goal.returns-clause-puts
returns-clause-puts g c =
    puts_same c.put_line.ensures (resource_entry_pieces (g.V.View.shown c.args.view.now) c.args.part _ _ _ (c.bytes.ensures.value ∙ c.base.ensures) c.number.ensures c.at.ensures)

pub returns-clause-small : goal.returns-clause-small
returns-clause-small g c =
    let short : length (g.V.View.shown c.args.view.now).base ≤ 128 = rw c.base.ensures at (base_length c.base.result.now c.bytes.ensures.lawful) in
    resource_entry_small (g.V.View.shown c.args.view.now) c.args.part short (omega (arith, c.number.ensures)) c.ranges.part.fits
