-- No line of the group has come.
use Rattle.std.proofs.Common.{◌≡◌, ◌+◌, ◌-◌, ◌∙◌, ap, sym, arith, Ok, Some, refl, []}
use Rattle.rs_script.specs.Statements.{items_of_group}
use Rattle.rs_script.proofs.statement.begin_group.Goals as goal

pub returns : goal.returns
unfolding items_of_group
returns c = λ first is.
    let size : c.args.size ≡ 0 + (c.args.size - 1) + 1 = omega (arith, c.requires) in
    (first, [], refl, is ∙ ap Some size, ap Ok (sym c.new.ensures.items))
