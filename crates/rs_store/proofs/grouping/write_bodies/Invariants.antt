-- The first bodies are written, and the others are those of the remaining items.
use Rattle.std.proofs.Common.{◌≡◌, take, drop}
use Rattle.rs_body.specs.Outside.{WritesOnly}
use Rattle.rs_plan.specs.Plans.{AreBodies}
use Rattle.rs_plan.specs.Room.{bodies_kept}
use Rattle.rs_store.proofs.grouping.write_bodies.Given as goal

abbrev pub invariant-loop-i : goal.invariant-loop-i
invariant-loop-i g l =
    let old = g.D.Disk.state l.fn.disk in
    let now = g.D.Disk.state l.disk in
    record {
      left : drop l.written (bodies_kept l.items) ≡ bodies_kept (drop l.i l.items);
      stand : AreBodies now.now.seen (take l.written l.extents) (take l.written (bodies_kept l.items));
      writes : WritesOnly l.extents ⊥ old now;
    }
