use Rattle.rs_disk.proofs.Runs.{going_on}
use Rattle.rs_disk.proofs.laws.fault_is_last.Goals as goal

pub returns : goal.returns
returns g c = λ old mid new result. going_on old mid new result
