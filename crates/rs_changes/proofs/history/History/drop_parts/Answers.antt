use Rattle.std.proofs.Common.{List, arith, ap, ◌∙◌}
use Rattle.rs_record.specs.declared.change.Change.{Change}
use Rattle.rs_page.specs.Pages.{Page}
use Rattle.rs_changes.specs.History.{changes_of}
use Rattle.rs_changes.proofs.Rising.{kept_drop}
use Rattle.rs_changes.proofs.history.History.drop_parts.Goals as goal

-- the later changes of kept changes are kept
pub invariant_of-result : goal.invariant_of-result
invariant_of-result c =
    let pages : List (Page Change) = c.self.inside.pages in
    record {
      kept = kept_drop c.part-dropped.result.start (changes_of pages) (changes_of c.in_ok-pages.pages) c.self.invariant.kept
          (ap (λ (left : List (Page Change)). changes_of left) c.in_ok-pages.ensures ∙ c.first_items_are_dropped_as_one.ensures.dropped c.part-dropped.result.start pages);
      first = omega (arith, ap (λ h. h.first) c.self.view_is, c.requires.number);
    }
