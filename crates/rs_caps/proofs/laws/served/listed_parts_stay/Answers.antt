use Rattle.rs_caps.proofs.PartsStay.{listed_parts_stay}
use Rattle.rs_caps.proofs.laws.served.listed_parts_stay.Goals as goal

pub returns : goal.returns
returns c = listed_parts_stay
