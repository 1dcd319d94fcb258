use Rattle.std.proofs.Common.{◌≡◌, ◌++◌, ◌≤◌, length, map}
use Rattle.rs_pages.specs.Rule.{cut_into_pieces_of, touched}
use Rattle.rs_pages.proofs.making.cut_into_pieces.Given as goal

abbrev pub invariant-loop-rest : goal.invariant-loop-rest
invariant-loop-rest g l =
    (1 ≤ length l.rest.items)
    × (l.pages.items ++ map touched (cut_into_pieces_of l.piece l.rest.items) ≡ l.initial.pages.items ++ map touched (cut_into_pieces_of l.piece l.initial.rest.items))

abbrev pub decreases-loop-rest : goal.decreases-loop-rest
decreases-loop-rest g l = length l.rest.items
