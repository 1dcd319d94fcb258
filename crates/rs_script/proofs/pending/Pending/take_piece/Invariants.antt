-- The bytes before the rest have been taken.
use Rattle.std.proofs.Common.{◌≡◌, ℕ, List, length, ◌++◌}
use Rattle.rs_io.specs.Watch.{failures}
use Rattle.rs_script.specs.Progress.{ComesTo, stand}
use Rattle.rs_script.proofs.pending.Pending.take_piece.Given as goal

abbrev pub decreases-loop-i : goal.decreases-loop-i
decreases-loop-i g l = length l.rest

abbrev pub invariant-loop-i : goal.invariant-loop-i
invariant-loop-i g l =
    (used : List ℕ) × (l.piece ≡ used ++ l.rest)
    × ComesTo g.D.Disk.state g.W.Write.contents (stand l.fn.self l.fn.source l.fn.writer) (stand l.self l.source l.writer) used
    × (failures l.writer ≡ failures l.fn.writer)
