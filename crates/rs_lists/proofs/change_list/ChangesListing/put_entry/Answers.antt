use Rattle.std.proofs.Common.{◌∙◌, ◌+◌, ◌≤◌, length, ap, ℕ, arith}
use Rattle.std.proofs.lemmas.List.{length-map}
use Rattle.rs_lists.specs.Text.{change_line}
use Rattle.rs_lists.proofs.Bounds.{base_length, change_entry_small}
use Rattle.rs_lists.proofs.Runs.{puts_same}
use Rattle.rs_lists.proofs.Items.{open_entry_pieces, closed_entry_pieces}
use Rattle.rs_lists.proofs.change_list.ChangesListing.put_entry.Goals as goal

pub returns-in-Some-clause-puts : goal.returns-in-Some-clause-puts
returns-in-Some-clause-puts g c =
    puts_same c.put_line.ensures
    (closed_entry_pieces (g.V.View.shown c.args.view.now) c.args.part _ _ _ _ (c.bytes.ensures.value ∙ c.base.ensures) (ap (λ (n : ℕ). n + c.args.part) c.first.ensures) c.part_from.ensures c.in-Some.ensures)

pub returns-in-None-clause-puts : goal.returns-in-None-clause-puts
returns-in-None-clause-puts g c =
    puts_same c.put_line-in-None.ensures
    (open_entry_pieces (g.V.View.shown c.args.view.now) c.args.part _ _ _ (c.bytes.ensures.value ∙ c.base.ensures) (ap (λ (n : ℕ). n + c.args.part) c.first.ensures) c.part_from.ensures c.in-None.ensures)

pub returns-in-Some-clause-small : goal.returns-in-Some-clause-small
returns-in-Some-clause-small g c =
    let s = g.V.View.shown c.args.view.now in
    let short : length s.base ≤ 128 = rw c.base.ensures at (base_length c.base.result.now c.bytes.ensures.lawful) in
    change_entry_small s c.args.part short (omega (arith, c.first.ensures, length-map s.changes (change_line s.base)))

pub returns-in-None-clause-small : goal.returns-in-None-clause-small
returns-in-None-clause-small g c =
    let s = g.V.View.shown c.args.view.now in
    let short : length s.base ≤ 128 = rw c.base.ensures at (base_length c.base.result.now c.bytes.ensures.lawful) in
    change_entry_small s c.args.part short (omega (arith, c.first.ensures, length-map s.changes (change_line s.base)))
