-- The causes in its fields, and then those of its place.
use Rattle.std.proofs.Common.{ap, ◌∙◌, subst}
use Rattle.rs_http.specs.declared.target.Place.{Place}
use Rattle.rs_http.specs.Targets.{path_of_target, place_of}
use Rattle.rs_http.specs.Checks.{field_causes, place_causes, plan_at, place_in}
use Rattle.rs_http.specs.Requests.{IsPlanAt}
use Rattle.rs_http.proofs.Plans.{planned_after}
use Rattle.rs_http.proofs.plan.plan_request.Goals as goal

pub returns : goal.returns
returns c =
    let p = c.args.head.now in
    let there = c.place_of.ensures ∙ ap place_of c.path_of_target.ensures ∙ ap (λ target. place_of (path_of_target target)) c.target.ensures in
    let P : Place → Type 0 = λ place. IsPlanAt place p c.plan_at.result in
    planned_after (field_causes p) (place_causes (place_in p) p) (plan_at (place_in p) p) c.plan_at.result c.in_ok-stated.ensures.ok
    (subst P there c.plan_at.ensures)
