use Rattle.rs_store.proofs.Moments.{is_device_or_not, not_done}
use Rattle.rs_store.proofs.laws.refused_is_not_done.Goals as goal

pub returns-clause-kinds : goal.returns-clause-kinds
returns-clause-kinds g c = is_device_or_not

pub returns-clause-kept : goal.returns-clause-kept
returns-clause-kept g c = not_done g.D.Disk.state
