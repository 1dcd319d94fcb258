use Rattle.std.proofs.Common.{◌≡◌, ◌∷◌, ◌++◌, length, take, All}
use Rattle.std.specs.Int.{w32, to_be_bytes}
use Rattle.rs_page.specs.Format.{kind_byte, items_bytes}
use Rattle.rs_page.proofs.format.page_bytes.Given as goal

abbrev pub invariant-loop-item : goal.invariant-loop-item
invariant-loop-item g l =
    (l.page.items ≡ kind_byte g.T.PageItem.format.kind ∷ (to_be_bytes w32 (length l.items) ++ items_bytes g.T.PageItem.format (take l.item-index l.items)))
    × All g.T.PageItem.format.IsLawful (take l.item-index l.items)
