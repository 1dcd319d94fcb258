use Rattle.rs_store.proofs.Moments.{answered_leave_prefixes}
use Rattle.rs_store.proofs.laws.answers_leave_prefixes.Goals as goal

pub returns : goal.returns
returns c = answered_leave_prefixes
