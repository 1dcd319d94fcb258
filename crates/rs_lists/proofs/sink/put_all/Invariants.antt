use Rattle.std.proofs.Common.{take}
use Rattle.rs_lists.specs.Piece.{pieces_text}
use Rattle.rs_lists.proofs.sink.put_all.Given as goal

abbrev pub invariant-loop-piece : goal.invariant-loop-piece
invariant-loop-piece g l = g.S.Sink.takes l.fn.sink l.sink (pieces_text (take l.piece-index l.pieces))
