use Rattle.rs_image.proofs.Once.{stands_once}
use Rattle.rs_image.proofs.laws.stands_once.Goals as goal

pub returns : goal.returns
returns c = stands_once
