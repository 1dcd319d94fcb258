-- The front of the buffer holds the bytes that were read so far.
use Rattle.std.proofs.Common.{◌≡◌, ◌+◌, ◌-◌, ◌≤◌, length, take}
use Rattle.rs_io.specs.Watch.{calls, Took}
use Rattle.rs_store.proofs.receiving.read_into.Given as goal

abbrev pub invariant-loop-filled : goal.invariant-loop-filled
invariant-loop-filled g l =
    record {
      within : l.filled ≤ length l.buf;
      size : length l.buf ≡ length l.fn.buf;
      came : Took g.R.Read.remaining l.fn.reader l.reader (take l.filled l.buf);
      reads : calls l.reader ≤ calls l.fn.reader + l.filled;
    }

abbrev pub decreases-loop-filled : goal.decreases-loop-filled
decreases-loop-filled g l = length l.initial.buf - l.filled
