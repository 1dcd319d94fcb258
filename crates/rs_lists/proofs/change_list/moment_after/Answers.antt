use Rattle.std.proofs.Common.{◌≡◌, ◌∙◌, suc, sym, ap, take, arith}
use Rattle.rs_record.specs.Changes.{last_moment}
use Rattle.rs_lists.proofs.Items.{last_moment-take}
use Rattle.rs_lists.proofs.change_list.moment_after.Goals as goal

pub returns-in-Some : goal.returns-in-Some
returns-in-Some g c =
    let s = g.V.View.shown c.args.view.now in
    let e : suc c.in-Some.last ≡ c.args.count = omega (arith, c.in-Some.ensures) in
    sym (ap (λ n. last_moment s.begin (take n s.changes)) (sym e) ∙ last_moment-take s.begin s.changes c.in-Some.last c.change.result.now c.change.ensures)
