-- The vector has the pieces so far, which are the front of the extent, and all but the last are full.
use Rattle.std.proofs.Common.{◌≡◌, ◌+◌, ◌-◌, ◌/◌, ◌%◌, ◌≤◌, ◌<◌, IsTrue, vec_len, vec_capacity}
use Rattle.rs_disk.specs.Runs.{RunsReading, CallsAtMost}
use Rattle.rs_fixity.specs.Hashed.{HasTakenSha256}
use Rattle.rs_body.specs.Blocks.{part}
use Rattle.rs_body.proofs.by_pieces.append_pieces.Given as goal

abbrev pub invariant-loop-at : goal.invariant-loop-at
invariant-loop-at g l =
    let old = g.D.Disk.state l.fn.disk in
    let now = g.D.Disk.state l.disk in
    record {
      within : l.at ≤ l.fn.length;
      long : vec_len l.into ≡ l.at;
      space : l.fn.length ≤ vec_capacity l.into;
      reads : IsTrue now.honest → l.into.items ≡ part l.fn.extent l.at old.now.seen;
      hashed : HasTakenSha256 l.hashing l.into.items;
      runs : RunsReading ⊥ old now;
      whole : l.at < l.fn.length → l.at % 262144 ≡ 0;
      calls : CallsAtMost ((l.at + 262143) / 262144) old now;
      none : l.at ≡ 0 → now ≡ old;
    }

abbrev pub decreases-loop-at : goal.decreases-loop-at
decreases-loop-at g l = l.fn.length - l.at
