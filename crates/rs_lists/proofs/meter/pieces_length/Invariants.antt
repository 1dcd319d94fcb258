use Rattle.std.proofs.Common.{◌≡◌, ◌-◌, ◌^◌, min, length, take}
use Rattle.rs_lists.specs.Piece.{pieces_text}
use Rattle.rs_lists.proofs.meter.pieces_length.Given as goal

abbrev pub invariant-loop-piece : goal.invariant-loop-piece
invariant-loop-piece l = l.total ≡ min (length (pieces_text (take l.piece-index l.pieces))) (2 ^ 64 - 1)
