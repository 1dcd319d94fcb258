use Rattle.std.proofs.Common.{◌≡◌, ◌++◌, drop}
use Rattle.rs_page.specs.Pages.{stored_refs}
use Rattle.rs_pages.proofs.pages.Pages.pages.Given as goal

abbrev pub invariant-loop-page : goal.invariant-loop-page
invariant-loop-page g l = l.pages.items ++ stored_refs (drop l.page-index l.page-items) ≡ stored_refs l.page-items
