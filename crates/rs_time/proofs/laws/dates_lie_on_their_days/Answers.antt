use Rattle.rs_time.proofs.Counting.{date_is}
use Rattle.rs_time.proofs.laws.dates_lie_on_their_days.Goals as goal

pub returns : goal.returns
returns c = date_is
