use Rattle.std.proofs.Common.{sym, subst}
use Rattle.rs_extent.specs.Extents.{AreTaken}
use Rattle.rs_plan.proofs.FromBelow.{taken_is_given_back}
use Rattle.rs_plan.proofs.planning.grouping.find_bodies.Goals as goal

pub returns-in_err-taken-clause-same : goal.returns-in_err-taken-clause-same
returns-in_err-taken-clause-same c =
    taken_is_given_back c.args.used.now c.take_bodies-taken.new.used c.give_each.new.self c.deref.result.now
    (subst (AreTaken c.args.used.now c.take_bodies-taken.new.used) (sym c.deref.ensures.value) c.take_bodies-taken.ensures.taken) c.give_each.ensures

pub returns-clause-same : goal.returns-clause-same
returns-clause-same c =
    taken_is_given_back c.args.used.now c.take_bodies-taken.new.used c.give_each.new.self c.deref.result.now
    (subst (AreTaken c.args.used.now c.take_bodies-taken.new.used) (sym c.deref.ensures.value) c.take_bodies-taken.ensures.taken) c.give_each.ensures
