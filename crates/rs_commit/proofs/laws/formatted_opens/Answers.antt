use Rattle.rs_commit.proofs.Payloads.{formatted_stands}
use Rattle.rs_commit.proofs.laws.formatted_opens.Goals as goal

pub returns : goal.returns
returns c = formatted_stands
