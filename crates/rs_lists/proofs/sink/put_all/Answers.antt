use Rattle.rs_lists.specs.Piece.{piece_text}
use Rattle.rs_lists.proofs.Runs.{stops_each}
use Rattle.rs_lists.proofs.sink.put_all.Goals as goal

pub returns-in_err-put_piece : goal.returns-in_err-put_piece
returns-in_err-put_piece g c =
    stops_each piece_text c.args.pieces.now c.loop-piece.piece-index _ _ _ _ g.met.S.Sink.laws c.from_residual.ensures.0 c.loop-piece-test.true c.piece-item.is c.loop-piece.invariant c.in_err-put_piece.ensures.fault
