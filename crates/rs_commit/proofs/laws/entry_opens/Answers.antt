use Rattle.rs_commit.proofs.Ready.{ready_stands, ready_opens}
use Rattle.rs_commit.proofs.laws.entry_opens.Goals as goal

pub returns-clause-stands : goal.returns-clause-stands
returns-clause-stands c = ready_stands

pub returns-clause-opens : goal.returns-clause-opens
returns-clause-opens c = ready_opens
