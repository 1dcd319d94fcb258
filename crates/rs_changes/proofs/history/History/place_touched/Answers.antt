use Rattle.std.proofs.Common.{sym, ap, ◌∙◌, subst}
use Rattle.rs_changes.proofs.FromBelow.{same_joined}
use Rattle.rs_changes.specs.History.{AreKept, Numbered, EndsUnstored, changes_of}
use Rattle.rs_changes.proofs.MovedPages.{ends_again}
use Rattle.rs_changes.proofs.history.History.place_touched.Goals as goal

pub invariant_of-self : goal.invariant_of-self
invariant_of-self c =
    record { kept = subst AreKept (sym (same_joined c.self.inside.pages c.place_touched.new.self c.place_touched.ensures.items)) c.self.invariant.kept; first = c.self.invariant.first }

pub returns-clause-unstored : goal.returns-clause-unstored
returns-clause-unstored c h = ends_again c.self.inside.pages c.place_touched.new.self c.place_touched.ensures.stored (subst (λ (now : Numbered). EndsUnstored now.pages) (sym c.self.view_is) h)

pub returns-clause-changes : goal.returns-clause-changes
returns-clause-changes c =
    record {
      changes = same_joined c.self.inside.pages c.place_touched.new.self c.place_touched.ensures.items ∙ ap (λ (now : Numbered). changes_of now.pages) c.self.view_is;
      first = ap (λ (now : Numbered). now.first) c.self.view_is;
    }
