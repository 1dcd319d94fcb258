use Rattle.std.proofs.Common.{◌≡◌, ◌∙◌, ap, subst, refl, Err}
use Rattle.std.proofs.lemmas.Result.{err_from_is_err_and}
use Rattle.rs_model.specs.declared.command.Command.TheVariants.{Publish}
use Rattle.rs_image.specs.Rooted.{Rooted}
use Rattle.rs_plan.specs.declared.planning.PlanFault.{PlanFault}
use Rattle.rs_plan.specs.Plans.{IsPlanned, IsFullFor}
use Rattle.rs_store.specs.Source.{Stored, rooted_in}
use Rattle.rs_store.proofs.Answered.{at_once, not_planned, carried_on}
use Rattle.rs_store.proofs.Begun.{begun_with_none}
use Rattle.rs_store.proofs.source.Source.publish.Goals as goal

pub returns-in_err-moment : goal.returns-in_err-moment
returns-in_err-moment g c =
    let given = err_from_is_err_and c.from_residual.result c.from_residual.ensures.1 in
    rw (given.1, given.2) (at_once g.D.Disk.state g.met.D.Disk.holds c.args.self.now Publish c.args.now c.in_err-moment.field-0.0 c.in_err-moment.ensures.decided)

pub returns-in_err-plan : goal.returns-in_err-plan
returns-in_err-plan g c =
    let old : Stored g.row.D.Denot = c.args.self.now in
    let rooted : c.rooted_by-rooted.result ≡ rooted_in g.D.Disk.state old = c.rooted_by-rooted.ensures ∙ ap (λ (s : Stored g.row.D.Denot). rooted_in g.D.Disk.state s) c.self.view_is in
    let given = err_from_is_err_and c.from_residual-in_err-plan.result c.from_residual-in_err-plan.ensures.1 in
    rw (given.1, given.2)
    (not_planned g.D.Disk.state g.met.D.Disk.holds old Publish c.args.now _ c.self.view_is c.in_ok-moment.moment c.in_ok-moment.ensures.decided c.in_err-plan.field-0.0
    (λ full. subst (λ (r : Rooted). IsFullFor r Publish c.in_ok-moment.moment) rooted (c.in_err-plan.ensures.full (ap (λ (x : PlanFault). Err x) full))))

pub returns : goal.returns
returns g c =
    let device = g.D.Disk.state in
    let old : Stored g.row.D.Denot = c.args.self.now in
    let plan = c.in_ok-plan.plan in
    let rooted : c.rooted_by-rooted.result ≡ rooted_in device old = c.rooted_by-rooted.ensures ∙ ap (λ (s : Stored g.row.D.Denot). rooted_in device s) c.self.view_is in
    carried_on device g.met.D.Disk.holds old Publish c.args.now old refl c.in_ok-moment.moment c.in_ok-moment.ensures.decided c.finish.new.self c.finish.result plan
    (subst (λ (r : Rooted). IsPlanned r Publish c.in_ok-moment.moment plan) rooted c.in_ok-plan.ensures.planned)
    (λ free planned. c.finish.ensures.answers old Publish c.args.now (begun_with_none device old _ plan c.self.view_is planned.bodies) free planned)
