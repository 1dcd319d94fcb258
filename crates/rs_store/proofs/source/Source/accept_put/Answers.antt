use Rattle.std.proofs.Common.{◌≡◌, ◌&&◌, nat_le, nat_lt, false, length, sym, ◌∙◌, ap, [], ◌∷◌, Bool, not, arith}
use Rattle.std.specs.Prelude.{is_none}
use Rattle.std.proofs.lemmas.Result.{err_from_is_err_and}
use Rattle.rs_record.specs.Limits.{longest_body}
use Rattle.rs_model.specs.Names.{value_of}
use Rattle.rs_model.specs.State.{most_resources}
use Rattle.rs_model.specs.Step.{has_all_changes, is_out_of_moments, moment_at}
use Rattle.rs_model.specs.declared.command.Refusal.TheVariants.{TooManyChanges, Exhausted}
use Rattle.rs_store.specs.Source.{Stored, state_of}
use Rattle.rs_store.specs.Refusals.{is_spent}
use Rattle.rs_store.proofs.Decided.{change_is_decided, and_none, is_short, are_few}
use Rattle.rs_store.proofs.source.Source.accept_put.Goals.{else-resources-ge-MOST_ITEMS-via-then-resources-ge-MOST_ITEMS+else-not-holds, else-resources-ge-MOST_ITEMS-via-else-resources-ge-MOST_ITEMS}
use Rattle.rs_store.proofs.source.Source.accept_put.Goals as goal

pub returns-in_err-moment-clause-decided : goal.returns-in_err-moment-clause-decided
returns-in_err-moment-clause-decided g c kind bytes long =
    let old = c.args.self.now in
    let s = state_of g.D.Disk.state old in
    let lacks = is_none (value_of c.args.name.now s.held) in
    let many = nat_le most_resources (length s.held) in
    let few : (lacks && many) ≡ false = elim c.else-resources-ge-MOST_ITEMS.branch [
      | else-resources-ge-MOST_ITEMS-via-then-resources-ge-MOST_ITEMS+else-not-holds w ↦
          ap (λ (b : Bool). b && many) (sym w.holds.ensures.lacks ∙ ap not w.if-not-holds.false)
      | else-resources-ge-MOST_ITEMS-via-else-resources-ge-MOST_ITEMS w ↦ and_none lacks many (are_few (length s.held) (omega (arith, w.if-resources-ge-MOST_ITEMS.false, c.resources.ensures.held)))
    ] in
    let given = err_from_is_err_and c.from_residual.result c.from_residual.ensures.1 in
    rw (given.1, given.2)
    (change_is_decided old.is_closed (nat_lt longest_body (length bytes)) (lacks && many) ((has_all_changes s, TooManyChanges) ∷ (is_out_of_moments s, Exhausted) ∷ [])
    (is_spent old) (moment_at s c.args.now) _ (ap (λ (x : Stored g.row.D.Denot). x.is_closed) (sym c.self.view_is) ∙ c.if-self.false)
    (is_short (length bytes) c.args.body_length long c.if-body_length.false) few c.in_err-moment.ensures.decided)
