-- The appended pieces and the pieces that follow make the whole, and the rest has room.
use Rattle.std.proofs.Common.{◌+◌, ◌++◌, length, map, drop}
use Rattle.std.specs.List.{concat}
use Rattle.std.specs.Vec.{vec_len, vec_capacity}
use Rattle.rs_record.proofs.Pieces.{IsAppended}
use Rattle.rs_record.proofs.fields.append.Given as goal

abbrev pub invariant-loop-piece : goal.invariant-loop-piece
invariant-loop-piece l =
    let rest = concat (map (λ piece. piece.now) (drop l.piece-index l.pieces)) in
    IsAppended l.out.items rest (l.fn.out.items ++ concat (map (λ piece. piece.now) l.pieces)) (vec_len l.out + length rest) (vec_capacity l.out)
