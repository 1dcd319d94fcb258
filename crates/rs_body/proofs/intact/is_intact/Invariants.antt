-- The pieces so far are the front of the extent, and all but the last are full.
use Rattle.std.proofs.Common.{◌≡◌, ◌+◌, ◌-◌, ◌/◌, ◌%◌, ◌≤◌, ◌<◌, IsTrue}
use Rattle.rs_disk.specs.Runs.{RunsReading, CallsAtMost}
use Rattle.rs_fixity.specs.Hashed.{HasTakenSha256}
use Rattle.rs_body.specs.Blocks.{part}
use Rattle.rs_body.proofs.intact.is_intact.Given as goal

abbrev pub invariant-loop-at : goal.invariant-loop-at
invariant-loop-at g l =
    let old = g.D.Disk.state l.fn.disk in
    let now = g.D.Disk.state l.disk in
    record {
      within : l.at ≤ l.fn.length;
      hashed : IsTrue now.honest → HasTakenSha256 l.hashing (part l.fn.extent l.at old.now.seen);
      runs : RunsReading ⊥ old now;
      whole : l.at < l.fn.length → l.at % 16384 ≡ 0;
      calls : CallsAtMost ((l.at + 16383) / 16384) old now;
      none : l.at ≡ 0 → now ≡ old;
    }

abbrev pub decreases-loop-at : goal.decreases-loop-at
decreases-loop-at g l = l.fn.length - l.at
