use Rattle.rs_image.proofs.Frame.{tells_stays}
use Rattle.rs_image.proofs.laws.tells_stays.Goals as goal

pub returns : goal.returns
returns c = tells_stays
