-- The fields are these.
use Rattle.std.proofs.Common.{◌≡◌, refl, sym, ap, ◌∙◌}
use Rattle.rs_record.specs.Changes.{binding}
use Rattle.rs_record.proofs.Changes.{same_change}
use Rattle.rs_record.proofs.change.Change.bound.Goals as goal
use Rattle.rs_record.proofs.change.Change.bound.Goals.{then-again, else-again}

pub returns : goal.returns
returns c =
    same_change _ _ refl
    (elim c.if-again.branch as (λ _. c.if-again.result ≡ binding c.args.again) [
      | then-again w ↦ w.result-is ∙ sym (ap binding w.if-again.true)
      | else-again w ↦ w.result-is ∙ sym (ap binding w.if-again.false)
    ])
    refl refl
