use Rattle.std.proofs.Common.{◌≡◌, ◌++◌, take}
use Rattle.rs_page.specs.Pages.{extents_of}
use Rattle.rs_plan.proofs.planning.freeing.add_pages.Given as goal

abbrev pub invariant-loop-page : goal.invariant-loop-page
invariant-loop-page l = l.freed.items ≡ l.fn.freed.items ++ extents_of (take l.page-index l.pages)
