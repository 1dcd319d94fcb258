-- A source after a call that only reads.
use Rattle.std.specs.Prelude.{◌≡◌}
use Rattle.rs_disk.specs.Medium.{DiskState}
use Rattle.rs_disk.specs.Runs.{Rests}
use Rattle.rs_store.specs.Source.{Stored}

-- The memory is unchanged, the source is as open or closed as before, and only the counts of the disk change.
pub record OnlyReads {D : Type 0} (device : D → DiskState) (old new : Stored D) : Type 0 where
  pub slots : new.slots ≡ old.slots
  pub contents : new.contents ≡ old.contents
  pub is_closed : new.is_closed ≡ old.is_closed
  pub rests : Rests (device old.disk) (device new.disk)
