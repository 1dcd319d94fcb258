use Rattle.rs_commit.proofs.Ready.{ready_stays}
use Rattle.rs_commit.proofs.laws.ready_stays.Goals as goal

pub returns : goal.returns
returns c = ready_stays
