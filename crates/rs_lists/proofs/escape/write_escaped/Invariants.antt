use Rattle.std.proofs.Common.{◌≡◌, ◌≤◌, ◌++◌, ◌-◌, take, drop}
use Rattle.rs_io.specs.Watch.{Wrote}
use Rattle.rs_lists.specs.Escape.{escape}
use Rattle.rs_lists.proofs.escape.write_escaped.Given as goal

abbrev pub invariant-loop-i : goal.invariant-loop-i
invariant-loop-i g l =
    record {
      order : l.start ≤ l.i;
      written : Wrote g.W.Write.contents l.fn.out l.out (escape (take l.start l.bytes));
      run : escape (take l.i l.bytes) ≡ escape (take l.start l.bytes) ++ take (l.i - l.start) (drop l.start l.bytes);
    }
