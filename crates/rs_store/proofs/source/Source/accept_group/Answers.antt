use Rattle.std.proofs.Common.{◌≡◌, None, sym, ◌∙◌, ap}
use Rattle.std.proofs.lemmas.Result.{err_from_is_err_and}
use Rattle.rs_model.specs.Step.{is_out_of_moments, moment_at, refusal_of}
use Rattle.rs_model.specs.declared.command.Command.TheVariants.{Group}
use Rattle.rs_store.specs.Source.{Stored, state_of}
use Rattle.rs_store.specs.Refusals.{is_spent}
use Rattle.rs_store.proofs.Decided.{moment_is_left, left_is_decided}
use Rattle.rs_store.proofs.source.Source.accept_group.Goals as goal

pub returns-in_err-moment-clause-decided : goal.returns-in_err-moment-clause-decided
returns-in_err-moment-clause-decided g c =
    let old = c.args.self.now in
    let s = state_of g.D.Disk.state old in
    let items = c.args.items.now in
    let accepted : refusal_of s (Group items) c.args.now ≡ None = sym c.refused_group.ensures ∙ c.in_default.is in
    let given = err_from_is_err_and c.from_residual.result c.from_residual.ensures.1 in
    rw (given.1, given.2)
    (left_is_decided old.is_closed (refusal_of s (Group items) c.args.now) (is_out_of_moments s) (is_spent old) (moment_at s c.args.now) _
    (ap (λ (x : Stored g.row.D.Denot). x.is_closed) (sym c.self.view_is) ∙ c.if-self.false) accepted (moment_is_left s items c.args.now accepted) c.in_err-moment.ensures.decided)
