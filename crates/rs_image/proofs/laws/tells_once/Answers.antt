use Rattle.rs_image.proofs.Once.{tells_once}
use Rattle.rs_image.proofs.laws.tells_once.Goals as goal

pub returns : goal.returns
returns c = tells_once
