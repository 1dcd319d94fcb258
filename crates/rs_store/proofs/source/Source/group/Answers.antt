use Rattle.std.proofs.Common.{Err, ap}
use Rattle.std.proofs.lemmas.Result.{err_from_is_err_and}
use Rattle.rs_model.specs.declared.command.Command.TheVariants.{Group}
use Rattle.rs_plan.specs.declared.planning.PlanFault.{PlanFault}
use Rattle.rs_store.proofs.Answered.{at_once, not_planned, carried_on}
use Rattle.rs_store.proofs.source.Source.group.Goals as goal

pub returns-in_err-moment : goal.returns-in_err-moment
returns-in_err-moment g c =
    let given = err_from_is_err_and c.from_residual.result c.from_residual.ensures.1 in
    rw (given.1, given.2) (at_once g.D.Disk.state g.met.D.Disk.holds c.args.self.now (Group c.args.items.now) c.args.now c.in_err-moment.field-0.0 c.in_err-moment.ensures.decided)

pub returns-in_err-plan : goal.returns-in_err-plan
returns-in_err-plan g c =
    let given = err_from_is_err_and c.from_residual-in_err-plan.result c.from_residual-in_err-plan.ensures.1 in
    rw (given.1, given.2)
    (not_planned g.D.Disk.state g.met.D.Disk.holds c.args.self.now (Group c.args.items.now) c.args.now _ c.planned_group.ensures.same
    c.in_ok-moment.moment c.in_ok-moment.ensures.decided c.in_err-plan.field-0.0 (λ full. c.in_err-plan.ensures.full (ap (λ (x : PlanFault). Err x) full)))

pub returns : goal.returns
returns g c =
    carried_on g.D.Disk.state g.met.D.Disk.holds c.args.self.now (Group c.args.items.now) c.args.now _ c.planned_group.ensures.same
    c.in_ok-moment.moment c.in_ok-moment.ensures.decided c.carry_out_group.new.self c.carry_out_group.result c.in_ok-plan.plan c.in_ok-plan.ensures.planned
    (c.carry_out_group.ensures c.args.now)
