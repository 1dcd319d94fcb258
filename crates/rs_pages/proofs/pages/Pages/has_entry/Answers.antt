use Rattle.std.proofs.Common.{ap, ◌∙◌}
use Rattle.std.specs.List.{list_any}
use Rattle.rs_page.specs.Pages.{same_page, stored_refs}
use Rattle.rs_pages.proofs.FoundEntries.{some_is_at}
use Rattle.rs_pages.proofs.pages.Pages.has_entry.Goals as goal

pub returns : goal.returns
returns g c =
    c.some_is_at.ensures ∙ some_is_at c.args.entry.now c.deref.result.now
    ∙ ap (λ pages. list_any (same_page c.args.entry.now) (stored_refs pages)) (c.deref.ensures.value ∙ c.self.view_is)
