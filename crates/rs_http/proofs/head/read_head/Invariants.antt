use Rattle.std.proofs.Common.{◌≤◌, ◌+◌, take}
use Rattle.rs_io.specs.Watch.{calls, Took}
use Rattle.rs_http.specs.Head.{HasNoEnd}
use Rattle.rs_http.proofs.head.read_head.Given as goal

abbrev pub invariant-loop-came : goal.invariant-loop-came
invariant-loop-came g l = record {
  came : Took g.R.Read.remaining l.fn.reader l.reader (take l.came l.buf);
  reads : calls l.reader ≤ calls l.fn.reader + l.came;
  open_yet : HasNoEnd (take l.came l.buf);
}
