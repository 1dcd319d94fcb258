-- One turn of a source.
use Rattle.std.specs.Prelude.{ℕ}
use Rattle.rs_disk.specs.Medium.{DiskState}
use Rattle.rs_store.specs.Source.{Stored}

-- A source gets a request at a moment: the source before, the moment, and the source after. `device` gives the view of
-- the device that contracts have.
pub record Turn {D : Type 0} (device : D → DiskState) : Type 0 where
  pub old : Stored D
  pub now : ℕ
  pub new : Stored D

abbrev pub turn : {D : Type 0} (device : D → DiskState) → Stored D → ℕ → Stored D → Turn device
turn device old now new = record { old = old; now = now; new = new }
