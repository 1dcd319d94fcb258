use Rattle.rs_commit.proofs.Payloads.{payloads_read}
use Rattle.rs_commit.proofs.laws.payloads_read.Goals as goal

pub returns : goal.returns
returns c = payloads_read
