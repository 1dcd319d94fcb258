-- A piece failed after the pieces before it.
use Rattle.std.proofs.Common.{[], Bor, List, ℕ, get_or}
use Rattle.std.proofs.lemmas.List.{get_or_default}
use Rattle.rs_io.proofs.Faults.{failed_each, on_fault}
use Rattle.rs_io.proofs.watch.Watched.put_all.Goals as goal

pub returns-in_err-put-clause-fault : goal.returns-in_err-put-clause-fault
returns-in_err-put-clause-fault g c =
    let pieces = c.args.pieces.now in
    let i = c.loop-piece.piece-index in
    let none : Bor (List ℕ) = record { ref_ptr = (0, 0); now = [] } in
    let piece = get_or pieces i none in
    on_fault c.from_residual.result
    (failed_each g.W.Write.contents (λ p. p.now) pieces i piece c.args.self.now c.loop-piece.self c.put.new.self
    c.loop-piece-test.true (get_or_default pieces i none piece c.loop-piece-test.true) c.loop-piece.invariant.wrote c.in_err-put.ensures.fault)
