use Rattle.rs_caps.proofs.PartsStay.{closed_parts_stay}
use Rattle.rs_caps.proofs.laws.served.closed_parts_stay.Goals as goal

pub returns : goal.returns
returns c = closed_parts_stay c.changes_are_kept.ensures c.lawful_stays.ensures.fold
