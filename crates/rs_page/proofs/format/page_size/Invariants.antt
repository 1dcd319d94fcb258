use Rattle.std.proofs.Common.{◌≡◌, ◌≤◌, ◌+◌, ◌*◌, length, take}
use Rattle.rs_page.specs.Format.{items_bytes}
use Rattle.rs_page.proofs.format.page_size.Given as goal

abbrev pub invariant-loop-item : goal.invariant-loop-item
invariant-loop-item g l =
    (l.size ≡ 5 + length (items_bytes g.T.PageItem.format (take l.item-index l.items))) × (l.size ≤ 5 + 410 * l.item-index)
