use Rattle.rs_caps.proofs.PartBounds.{parts_bounded}
use Rattle.rs_caps.proofs.laws.served.parts_are_bounded.Goals as goal

pub returns : goal.returns
returns c = parts_bounded
