use Rattle.std.proofs.Common.{◌≡◌, ◌+◌, ◌-◌, ◌≤◌, take, length, false}
use Rattle.rs_io.specs.Watch.{calls, is_flushed, Wrote}
use Rattle.rs_io.proofs.watch.Watched.put.Given as goal

abbrev pub invariant-loop-written : goal.invariant-loop-written
invariant-loop-written g l =
    record {
      within : l.written ≤ length l.bytes;
      few : l.interruptions ≤ 100;
      wrote : Wrote g.W.Write.contents l.fn.self l.self (take l.written l.bytes);
      unflushed : is_flushed l.self ≡ false;
      tried : calls l.self ≤ (calls l.fn.self + l.written) + l.interruptions;
      calls : calls l.fn.self ≤ calls l.self;
    }

abbrev pub decreases-loop-written : goal.decreases-loop-written
decreases-loop-written g l = (length l.bytes - l.written) + (100 - l.interruptions)
