-- The laws of the crates below on which runs rest.
use Rattle.rs_disk.specs.Medium.{DiskState}
use Rattle.rs_image.specs.Laws.{StandsOnce}
use Rattle.rs_store.specs.Laws.{ClosedStays, DeviceCloses, ClosedCountNone, RunsAreAnswered, RunsLeavePrefixes, OpenHoldsAll}

-- these laws
pub record Below {D : Type 0} (device : D → DiskState) : Type 0 where
  pub stands_once : StandsOnce
  pub closes : DeviceCloses device
  pub closed : ClosedStays device
  pub none_counts : ClosedCountNone
  pub answered : RunsAreAnswered device
  pub moments : RunsLeavePrefixes device
  pub end : OpenHoldsAll device
