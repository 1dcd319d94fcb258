-- The start of both extents is the same so far, and hashed. Every piece except the last is full.
use Rattle.std.proofs.Common.{◌≡◌, ◌+◌, ◌-◌, ◌/◌, ◌%◌, ◌≤◌, ◌<◌, [], ◌∷◌, IsTrue}
use Rattle.rs_disk.specs.Runs.{CallsAtMost}
use Rattle.rs_fixity.specs.Hashed.{HasTakenSha256}
use Rattle.rs_body.specs.Blocks.{part}
use Rattle.rs_copy.specs.Copying.{CopiesOnly}
use Rattle.rs_copy.proofs.bodies.copy_pieces.Given as goal

abbrev pub invariant-loop-at : goal.invariant-loop-at
invariant-loop-at g l =
    let before = g.D.Disk.state l.fn.from in
    let after = g.D.Disk.state l.from in
    let old = g.E.Disk.state l.fn.to in
    let new = g.E.Disk.state l.to in
    record {
      within : l.at ≤ l.held.length;
      whole : l.at < l.held.length → l.at % 16384 ≡ 0;
      calls : CallsAtMost ((l.at + 16383) / 16384) before after;
      hashed : HasTakenSha256 l.hashing (part l.extent l.at new.now.seen);
      copied : IsTrue after.honest → part l.extent l.at new.now.seen ≡ part l.held.extent l.at before.now.seen;
      copies : CopiesOnly (l.extent ∷ []) ⊥ (record { from = before; to = old }) (record { from = after; to = new });
    }

abbrev pub decreases-loop-at : goal.decreases-loop-at
decreases-loop-at g l = l.held.length - l.at
