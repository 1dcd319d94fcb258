use Rattle.rs_commit.proofs.Contents.{current_stays, opens_stays}
use Rattle.rs_commit.proofs.laws.opens_stays.Goals as goal

pub returns-clause-current : goal.returns-clause-current
returns-clause-current c = current_stays

pub returns-clause-opens : goal.returns-clause-opens
returns-clause-opens c = opens_stays
