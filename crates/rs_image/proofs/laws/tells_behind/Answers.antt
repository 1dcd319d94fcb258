use Rattle.rs_image.proofs.Frame.{tells_behind}
use Rattle.rs_image.proofs.laws.tells_behind.Goals as goal

pub returns : goal.returns
returns c = tells_behind
