use Rattle.std.proofs.Common.{◌≡◌, ◌++◌, ◌≤◌, length, map}
use Rattle.rs_pages.specs.Rule.{cut_into_pieces_of, touched}
use Rattle.rs_pages.proofs.making.copy_in_pages.Given as goal

abbrev pub invariant-loop-rest : goal.invariant-loop-rest
invariant-loop-rest g l =
    (1 ≤ length l.rest)
    × (l.pages.items ++ map touched (cut_into_pieces_of 64 l.rest) ≡ l.initial.pages.items ++ map touched (cut_into_pieces_of 64 l.initial.rest))

abbrev pub decreases-loop-rest : goal.decreases-loop-rest
decreases-loop-rest g l = length l.rest
