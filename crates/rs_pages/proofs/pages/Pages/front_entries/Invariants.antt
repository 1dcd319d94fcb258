use Rattle.std.proofs.Common.{◌≡◌, ◌++◌, drop}
use Rattle.rs_page.specs.Pages.{stored_refs}
use Rattle.rs_pages.specs.Dropped.{front_pages}
use Rattle.rs_pages.proofs.pages.Pages.front_entries.Given as goal

abbrev pub invariant-loop-page : goal.invariant-loop-page
invariant-loop-page g l = l.entries.items ++ stored_refs (front_pages l.more (drop l.page-index l.page-items)) ≡ stored_refs (front_pages l.initial.more l.page-items)
