use Rattle.std.proofs.Common.{ap, ◌∙◌}
use Rattle.rs_changes.specs.History.{Numbered, changes_of}
use Rattle.rs_changes.proofs.Filled.{kept-filled, filled_last}
use Rattle.rs_changes.proofs.history.History.fill_last.Goals as goal

pub invariant_of-self : goal.invariant_of-self
invariant_of-self c =
    record {
      kept = kept-filled c.args.digests (changes_of c.self.inside.pages) (changes_of c.fill_last.new.self) c.fill_last.ensures.items c.self.invariant.kept;
      first = c.self.invariant.first;
    }

pub returns-clause-filled : goal.returns-clause-filled
returns-clause-filled c before last is =
    filled_last c.args.digests (changes_of c.self.inside.pages) (changes_of c.fill_last.new.self) c.fill_last.ensures.items before last
    (ap (λ (h : Numbered). changes_of h.pages) c.self.view_is ∙ is)
