use Rattle.std.proofs.Common.{◌≡◌, ◌+◌, ◌++◌, drop, length}
use Rattle.rs_page.specs.Pages.{items_of}
use Rattle.rs_pages.specs.Starts.{starts_of}
use Rattle.rs_pages.proofs.pages.Pages.of_pages.Given as goal

abbrev pub invariant-loop-page : goal.invariant-loop-page
invariant-loop-page g l =
    (l.starts.items ++ starts_of l.len (drop l.page-index l.page-items) ≡ starts_of 0 l.page-items)
    × (l.len + length (items_of (drop l.page-index l.page-items)) ≡ length (items_of l.page-items))
