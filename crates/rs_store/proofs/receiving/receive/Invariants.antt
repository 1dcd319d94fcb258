-- The front of the extent holds the bytes that came so far.
use Rattle.std.proofs.Common.{◌≡◌, ◌+◌, ◌-◌, ◌≤◌, [], ◌∷◌, length}
use Rattle.rs_body.specs.Blocks.{part}
use Rattle.rs_body.specs.Outside.{WritesOnly}
use Rattle.rs_fixity.specs.Hashed.{HasTaken}
use Rattle.rs_io.specs.Watch.{calls, Took}
use Rattle.rs_store.proofs.receiving.receive.Given as goal

abbrev pub invariant-loop-at : goal.invariant-loop-at
invariant-loop-at g l =
    let came = part l.fn.extent l.at (g.D.Disk.state l.disk).now.seen in
    record {
      within : l.at ≤ l.fn.body_length;
      took : Took g.R.Read.remaining l.fn.reader l.reader came;
      reads : calls l.reader ≤ calls l.fn.reader + l.at;
      whole : length came ≡ l.at;
      hashed : HasTaken l.hashing came;
      writes : WritesOnly (l.fn.extent ∷ []) ⊥ (g.D.Disk.state l.fn.disk) (g.D.Disk.state l.disk);
    }

abbrev pub decreases-loop-at : goal.decreases-loop-at
decreases-loop-at g l = l.fn.body_length - l.at
