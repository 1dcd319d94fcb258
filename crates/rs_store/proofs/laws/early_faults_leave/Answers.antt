use Rattle.rs_store.proofs.Early.{early_faults_leave}
use Rattle.rs_store.proofs.laws.early_faults_leave.Goals as goal

pub returns : goal.returns
returns g c = early_faults_leave g.D.Disk.state
