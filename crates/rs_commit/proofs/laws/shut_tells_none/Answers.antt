use Rattle.rs_commit.proofs.Closed.{shut_none, shut_stays}
use Rattle.rs_commit.proofs.laws.shut_tells_none.Goals as goal

pub returns-clause-none : goal.returns-clause-none
returns-clause-none c = shut_none

pub returns-clause-stays : goal.returns-clause-stays
returns-clause-stays c = shut_stays
