-- The writer has taken the first pieces whole, and is unflushed after the first piece. Before that piece it is
-- unchanged. A failed writer takes no piece.
use Rattle.std.proofs.Common.{◌≡◌, ◌<◌, ◌≤◌, take, false}
use Rattle.std.specs.Prelude.{IsTrue}
use Rattle.std.specs.List.{flat_map}
use Rattle.rs_io.specs.Watch.{Wrote, calls, is_broken, is_flushed}
use Rattle.rs_io.proofs.watch.Watched.put_all.Given as goal

abbrev pub invariant-loop-piece : goal.invariant-loop-piece
invariant-loop-piece g l =
    record {
      wrote : Wrote g.W.Write.contents l.fn.self l.self (flat_map (λ piece. piece.now) (take l.piece-index l.pieces));
      unflushed : 0 < l.piece-index → is_flushed l.self ≡ false;
      untouched : l.piece-index ≡ 0 → l.self ≡ l.fn.self;
      calls : calls l.fn.self ≤ calls l.self;
      broken : IsTrue (is_broken l.fn.self) → l.piece-index ≡ 0;
    }
