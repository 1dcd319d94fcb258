-- The copy has the same fields.
use Rattle.std.proofs.Common.{◌≡◌, refl}
use Rattle.rs_record.proofs.Changes.{same_change}
use Rattle.rs_record.proofs.change.Change.copy.Goals as goal
use Rattle.rs_record.proofs.change.Change.copy.Goals.{in-Some+in_ok-copy-in-Some, in-None}

pub returns : goal.returns
returns c =
    same_change _ c.args.self.now c.in_ok-copy.ensures refl refl
    (elim c.match-self.branch as (λ _. c.match-self.facts ≡ c.args.self.now.facts) [ in-Some+in_ok-copy-in-Some w ↦ cc (w.facts-is, w.in_ok-copy-in-Some.ensures) | in-None w ↦ cc ])
