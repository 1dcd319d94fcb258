-- The first bodies are copied so far.
use Rattle.std.proofs.Common.{◌≡◌, IsTrue, take, map}
use Rattle.std.specs.Prelude.{All}
use Rattle.rs_disk.specs.Runs.{CallsAtMost}
use Rattle.rs_catalogue.specs.Catalogue.{records_of}
use Rattle.rs_image.specs.Reach.{bodies_of}
use Rattle.rs_image.specs.StateOfImage.{held_in}
use Rattle.rs_copy.specs.Copies.{HasItsBody, calls_for}
use Rattle.rs_copy.specs.Copying.{CopiesOnly}
use Rattle.rs_copy.proofs.bodies.copy_bodies.Given as goal

abbrev pub invariant-loop-i : goal.invariant-loop-i
invariant-loop-i g l =
    let before = g.D.Disk.state l.fn.from in
    let after = g.D.Disk.state l.from in
    let old = g.E.Disk.state l.fn.to in
    let new = g.E.Disk.state l.to in
    record {
      copied : IsTrue after.honest → map (held_in new.now.seen) (take l.i (records_of l.new)) ≡ map (held_in before.now.seen) (take l.i (records_of l.old));
      intact : All (HasItsBody new.now.seen) (take l.i (records_of l.new));
      once : CallsAtMost (calls_for (take l.i (records_of l.old))) before after;
      copies : CopiesOnly (bodies_of (records_of l.new)) ⊥ (record { from = before; to = old }) (record { from = after; to = new });
    }
