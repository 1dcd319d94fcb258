use Rattle.rs_disk.proofs.Steps.{one_call}
use Rattle.rs_disk.proofs.laws.runs_leave.Goals as goal

pub returns-clause-one : goal.returns-clause-one
returns-clause-one g c = λ old new held. one_call old new g.P.Claim.of held
