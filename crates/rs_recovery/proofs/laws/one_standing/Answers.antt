use Rattle.rs_recovery.proofs.Sessions.{one_standing}
use Rattle.rs_recovery.proofs.laws.one_standing.Goals as goal

pub returns : goal.returns
returns c = one_standing c.stands_once.ensures
