use Rattle.rs_body.proofs.KeptBlocks.{outside_on}
use Rattle.rs_body.proofs.laws.outside_goes_on.Goals as goal

pub returns : goal.returns
returns c = outside_on
