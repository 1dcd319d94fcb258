use Rattle.std.proofs.Common.{◌<◌, List, length, ap, ◌∙◌, sym, subst}
use Rattle.std.specs.Prelude.{IfSome}
use Rattle.rs_record.specs.declared.change.Change.{Change}
use Rattle.rs_model.specs.State.{most_changes}
use Rattle.rs_page.specs.Pages.{Page}
use Rattle.rs_changes.specs.History.{Numbered, changes_of, last_of}
use Rattle.rs_changes.proofs.Rising.{kept-append}
use Rattle.rs_changes.proofs.history.History.with.Goals as goal

pub invariant_of-result : goal.invariant_of-result
invariant_of-result c =
    let pages : List (Page Change) = c.self.inside.pages in
    record {
      kept = kept-append (changes_of pages) (changes_of c.in_ok-pages.pages) c.args.change c.self.invariant.kept
          (subst (λ (now : Numbered). IfSome (last_of (changes_of now.pages)) (λ last. last.moment < c.args.change.moment)) (sym c.self.view_is) c.requires.rises)
          (subst (λ (now : Numbered). length (changes_of now.pages) < most_changes) (sym c.self.view_is) c.requires.room)
          (ap (λ (next : List (Page Change)). changes_of next) c.in_ok-pages.ensures ∙ c.pages_are_one_list.ensures.appended c.args.change pages);
      first = c.self.invariant.first;
    }
