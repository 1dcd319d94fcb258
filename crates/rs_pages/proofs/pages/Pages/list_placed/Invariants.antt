use Rattle.std.proofs.Common.{vec_len, vec_capacity}
use Rattle.rs_pages.proofs.ListedUpTo.{ListedUpTo}
use Rattle.rs_pages.proofs.pages.Pages.list_placed.Given as goal

abbrev pub invariant-loop-page : goal.invariant-loop-page
invariant-loop-page g l =
    ListedUpTo l.page-index l.page-items l.initial.extents.items l.extents.items (vec_len l.initial.extents) (vec_len l.extents)
    (vec_capacity l.initial.extents) (vec_capacity l.extents)
