use Rattle.std.proofs.Common.{◌≡◌, ℕ, List, [], length, refl, sym, ap, subst, Err, None}
use Rattle.std.specs.Prelude.{replicate}
use Rattle.std.proofs.lemmas.Result.{err_from_is_err_and}
use Rattle.std.proofs.KnownBytes.{Consumes-nil}
use Rattle.rs_io.specs.Watch.{watched}
use Rattle.rs_fixity.specs.Digests.{digests}
use Rattle.rs_model.specs.Step.{moment_at}
use Rattle.rs_model.specs.declared.command.Command.TheVariants.{Put}
use Rattle.rs_plan.specs.declared.planning.PlanFault.{PlanFault}
use Rattle.rs_plan.specs.Plans.{IsPlanned}
use Rattle.rs_plan.specs.Drafts.{plan_filled}
use Rattle.rs_store.specs.declared.refusal.Refusal.TheVariants.{ReadFault, ShortBody}
use Rattle.rs_store.specs.Source.{Stored, rooted_in, state_of}
use Rattle.rs_store.specs.Refusals.{decided}
use Rattle.rs_store.specs.Writing.{of_plan}
use Rattle.rs_plan.specs.Drafts.{IsDraftOf}
use Rattle.rs_store.specs.Received.{AnswersFrom, coming_put}
use Rattle.rs_store.proofs.Answered.{unless_ok, at_once, not_planned}
use Rattle.rs_store.proofs.Received.{nothing_came, refused_as, zeros}
use Rattle.rs_store.proofs.ReaderCounts.{no_reads}
use Rattle.rs_store.proofs.source.Source.put_from.Goals as goal

pub returns-in_err-moment-clause-came : goal.returns-in_err-moment-clause-came
returns-in_err-moment-clause-came g c =
    let device = g.D.Disk.state in
    let old = c.args.self.now in
    let n = c.args.body_length in
    let r = c.in_err-moment.field-0.0 in
    let given = err_from_is_err_and c.from_residual.result c.from_residual.ensures.1 in (
      [],
      Consumes-nil (g.R.Read.remaining (watched c.args.reader.now)),
      rw (given.1, given.2) (refused_as device old old c.args.name.now c.args.kind.now n c.args.now [] r (replicate n 0) (zeros n) (nothing_came n r)
          (λ body is. at_once device g.met.D.Disk.holds old (Put c.args.name.now c.args.kind.now body) c.args.now r (c.in_err-moment.ensures.decided c.args.kind.now body is.len))),
      no_reads _ c.args.reader.now,
    )

pub returns-in_err-moment-clause-failed : goal.returns-in_err-moment-clause-failed
returns-in_err-moment-clause-failed g c =
    let body = replicate c.args.body_length 0 in
    let given = err_from_is_err_and c.from_residual.result c.from_residual.ensures.1 in
    rw (given.1, given.2) (record {
      failed = λ same. absurd ((at_once g.D.Disk.state g.met.D.Disk.holds c.args.self.now (Put c.args.name.now c.args.kind.now body) c.args.now c.in_err-moment.field-0.0
          (c.in_err-moment.ensures.decided c.args.kind.now body (zeros c.args.body_length).len)).refused ReadFault same);
      sound = λ _. refl;
    })

pub returns-in_err-moment-clause-ended : goal.returns-in_err-moment-clause-ended
returns-in_err-moment-clause-ended g c =
    let body = replicate c.args.body_length 0 in
    let given = err_from_is_err_and c.from_residual.result c.from_residual.ensures.1 in
    rw (given.1, given.2)
    (λ same. absurd ((at_once g.D.Disk.state g.met.D.Disk.holds c.args.self.now (Put c.args.name.now c.args.kind.now body) c.args.now c.in_err-moment.field-0.0
    (c.in_err-moment.ensures.decided c.args.kind.now body (zeros c.args.body_length).len)).refused ShortBody same))

pub returns-in_err-plan-clause-came : goal.returns-in_err-plan-clause-came
returns-in_err-plan-clause-came g c =
    let device = g.D.Disk.state in
    let old : Stored g.row.D.Denot = c.args.self.now in
    let name = c.args.name.now in
    let kind = c.args.kind.now in
    let n = c.args.body_length in
    let fault = c.in_err-plan.field-0.0 in
    let given = err_from_is_err_and c.from_residual-in_err-plan.result c.from_residual-in_err-plan.ensures.1 in (
      [],
      Consumes-nil (g.R.Read.remaining (watched c.args.reader.now)),
      rw (given.1, given.2)
          (refused_as device old c.drafted_put.new.self name kind n c.args.now [] (of_plan fault) (replicate n 0) (zeros n) (nothing_came n (of_plan fault))
          (λ body is. not_planned device g.met.D.Disk.holds old (Put name kind body) c.args.now _ c.drafted_put.ensures.same
          c.in_ok-moment.moment (c.in_ok-moment.ensures.decided kind body is.len) fault (λ full. c.in_err-plan.ensures.full (ap (λ (x : PlanFault). Err x) full) body is.len))),
      no_reads _ c.args.reader.now,
    )

-- the plan is a draft for the lists in memory
pub receive_planned-requires-clause-planned : goal.receive_planned-requires-clause-planned
receive_planned-requires-clause-planned g c = (
  c.args.kind.now,
  c.in_ok-moment.moment,
  subst (λ (s : Stored g.row.D.Denot). IsDraftOf (rooted_in g.D.Disk.state s) c.args.name.now c.args.kind.now c.args.body_length c.in_ok-moment.moment c.in_ok-plan.plan)
      (sym c.drafted_put.ensures.same) c.in_ok-plan.ensures.draft.planned,
)

pub returns-clause-came : goal.returns-clause-came
returns-clause-came g c =
    let device = g.D.Disk.state in
    let old : Stored g.row.D.Denot = c.args.self.now in
    let name = c.args.name.now in
    let kind = c.args.kind.now in
    let n = c.args.body_length in
    let at : ℕ = moment_at (state_of device old) c.args.now in
    let plan = c.in_ok-plan.plan in
    let same : c.drafted_put.new.self ≡ old = c.drafted_put.ensures.same in
    let came = c.receive_planned.ensures.came in
    let free = λ (body : List ℕ) (is : length body ≡ n). unless_ok (decided old (state_of device old) (Put name kind body) c.args.now) at c.in_ok-moment.moment (c.in_ok-moment.ensures.decided kind body is) in
    let drafted : IsDraftOf (rooted_in device old) name kind n at plan =
    λ body is. subst (λ (m : ℕ). IsPlanned (rooted_in device old) (Put name kind body) m (plan_filled name (digests body) plan)) (free body is).1 (c.in_ok-plan.ensures.draft.planned body is) in (
      came.0,
      came.1,
      subst (λ (s : Stored g.row.D.Denot). AnswersFrom device s c.receive_planned.new.self (coming_put name kind n c.args.now) came.0 c.receive_planned.result) same
          (came.2 kind c.args.now
          (subst (λ (s : Stored g.row.D.Denot). (body : List ℕ) → length body ≡ n → decided s (state_of device s) (Put name kind body) c.args.now ≡ None) (sym same) (λ body is. (free body is).0))
          (subst (λ (s : Stored g.row.D.Denot). IsDraftOf (rooted_in device s) name kind n (moment_at (state_of device s) c.args.now) plan) (sym same) drafted)),
      came.3,
    )
