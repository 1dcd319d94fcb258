-- The names are those of the damaged records among the first ones.
use Rattle.std.proofs.Common.{◌≡◌, ◌≤◌, length, map, take, IsTrue}
use Rattle.rs_disk.specs.Runs.{RunsReading, CallsAtMost}
use Rattle.rs_catalogue.specs.Catalogue.{records_of}
use Rattle.rs_image.specs.StateOfImage.{held_in}
use Rattle.rs_copy.specs.Copies.{calls_for}
use Rattle.rs_store.specs.Verified.{damaged_among}
use Rattle.rs_store.proofs.verifying.damaged_in.Given as goal

abbrev pub invariant-loop-i : goal.invariant-loop-i
invariant-loop-i g l =
    let old = g.D.Disk.state l.fn.disk in
    let now = g.D.Disk.state l.disk in
    record {
      names : IsTrue now.honest → l.names.items ≡ damaged_among (map (held_in old.now.seen) (take l.i (records_of l.catalogue)));
      few : length l.names.items ≤ l.i;
      once : CallsAtMost (calls_for (take l.i (records_of l.catalogue))) old now;
      runs : RunsReading ⊥ old now;
    }
