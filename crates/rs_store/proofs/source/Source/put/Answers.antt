use Rattle.std.proofs.Common.{refl, sym, ap, subst, Err}
use Rattle.std.proofs.lemmas.Result.{err_from_is_err_and}
use Rattle.rs_model.specs.declared.command.Command.TheVariants.{Put}
use Rattle.rs_plan.specs.declared.planning.PlanFault.{PlanFault}
use Rattle.rs_plan.specs.Plans.{IsPlanned}
use Rattle.rs_store.specs.Source.{Stored, rooted_in}
use Rattle.rs_store.proofs.Answered.{at_once, not_planned, carried_on}
use Rattle.rs_store.proofs.source.Source.put.Goals as goal

pub returns-in_err-moment : goal.returns-in_err-moment
returns-in_err-moment g c =
    let kind = c.args.kind.now in
    let bytes = c.args.bytes.now in
    let given = err_from_is_err_and c.from_residual.result c.from_residual.ensures.1 in
    rw (given.1, given.2)
    (at_once g.D.Disk.state g.met.D.Disk.holds c.args.self.now (Put c.args.name.now kind bytes) c.args.now c.in_err-moment.field-0.0 (c.in_err-moment.ensures.decided kind bytes refl))

pub returns-in_err-plan : goal.returns-in_err-plan
returns-in_err-plan g c =
    let kind = c.args.kind.now in
    let bytes = c.args.bytes.now in
    let given = err_from_is_err_and c.from_residual-in_err-plan.result c.from_residual-in_err-plan.ensures.1 in
    rw (given.1, given.2)
    (not_planned g.D.Disk.state g.met.D.Disk.holds c.args.self.now (Put c.args.name.now kind bytes) c.args.now _ c.planned_put.ensures.same
    c.in_ok-moment.moment (c.in_ok-moment.ensures.decided kind bytes refl) c.in_err-plan.field-0.0 (λ full. c.in_err-plan.ensures.full (ap (λ (x : PlanFault). Err x) full)))

-- the plan is one for the lists in memory
pub carry_out_put-requires-clause-planned : goal.carry_out_put-requires-clause-planned
carry_out_put-requires-clause-planned g c = (
  c.args.name.now,
  c.args.kind.now,
  c.in_ok-moment.moment,
  subst (λ (s : Stored g.row.D.Denot). IsPlanned (rooted_in g.D.Disk.state s) (Put c.args.name.now c.args.kind.now c.args.bytes.now) c.in_ok-moment.moment c.in_ok-plan.plan)
      (sym c.planned_put.ensures.same) c.in_ok-plan.ensures.planned,
)

pub returns : goal.returns
returns g c =
    let name = c.args.name.now in
    let kind = c.args.kind.now in
    let bytes = c.args.bytes.now in
    carried_on g.D.Disk.state g.met.D.Disk.holds c.args.self.now (Put name kind bytes) c.args.now _ c.planned_put.ensures.same
    c.in_ok-moment.moment (c.in_ok-moment.ensures.decided kind bytes refl) c.carry_out_put.new.self c.carry_out_put.result c.in_ok-plan.plan c.in_ok-plan.ensures.planned
    (c.carry_out_put.ensures name kind c.args.now)
