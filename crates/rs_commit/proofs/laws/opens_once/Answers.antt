use Rattle.rs_commit.proofs.Contents.{opens_once}
use Rattle.rs_commit.proofs.laws.opens_once.Goals as goal

pub returns : goal.returns
returns c = opens_once
