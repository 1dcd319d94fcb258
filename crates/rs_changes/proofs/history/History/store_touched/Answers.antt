use Rattle.std.proofs.Common.{sym, ap, ◌∙◌, subst}
use Rattle.rs_page.specs.Items.{change_format}
use Rattle.rs_changes.proofs.FromBelow.{same_joined, items_kept}
use Rattle.rs_changes.specs.History.{AreKept, Numbered, changes_of}
use Rattle.rs_changes.proofs.history.History.store_touched.Goals as goal

pub invariant_of-self : goal.invariant_of-self
invariant_of-self g c =
    let kept = items_kept change_format _ c.self.inside.pages c.store_touched.new.self c.store_touched.result c.store_touched.ensures.ok c.store_touched.ensures.err in
    record { kept = subst AreKept (sym (same_joined c.self.inside.pages c.store_touched.new.self kept)) c.self.invariant.kept; first = c.self.invariant.first }

pub returns-clause-changes : goal.returns-clause-changes
returns-clause-changes g c =
    let kept = items_kept change_format _ c.self.inside.pages c.store_touched.new.self c.store_touched.result c.store_touched.ensures.ok c.store_touched.ensures.err in
    record {
      changes = same_joined c.self.inside.pages c.store_touched.new.self kept ∙ ap (λ (now : Numbered). changes_of now.pages) c.self.view_is;
      first = ap (λ (now : Numbered). now.first) c.self.view_is;
    }
