use Rattle.std.proofs.Common.{◌≡◌, Err, ap, ◌∙◌}
use Rattle.std.proofs.lemmas.Result.{err_from_is_err_and}
use Rattle.rs_model.specs.Step.{step}
use Rattle.rs_model.proofs.StepLemmas.{refusal_passed}
use Rattle.rs_model.proofs.state.State.step.Goals as goal

-- the error is the one of `apply`, on equal copies
pub returns-in_err-reply-clause-refused : goal.returns-in_err-reply-clause-refused
returns-in_err-reply-clause-refused c =
    let given = err_from_is_err_and c.from_residual-in_err-reply.result c.from_residual-in_err-reply.ensures.1 in
    let state : c.in_ok-next.next ≡ c.args.self.now = c.in_ok-next.ensures in
    let command : c.in_ok-duplicate.field-0 ≡ c.args.command.now = c.in_ok-duplicate.ensures in
    let refused = rw (state, command) at c.apply.ensures.refused in
    refusal_passed (λ r. step c.args.self.now c.args.command.now c.args.now ≡ Err r) c.apply.result _ c.in_err-reply.field-0.0 c.in_err-reply.was (given.1 ∙ ap Err given.2) refused
