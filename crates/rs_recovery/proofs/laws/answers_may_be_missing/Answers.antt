use Rattle.rs_recovery.proofs.Missing.{answers_may_be_missing}
use Rattle.rs_recovery.proofs.laws.answers_may_be_missing.Goals as goal

pub returns : goal.returns
returns c = answers_may_be_missing
