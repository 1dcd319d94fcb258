use Rattle.rs_extent.proofs.Taken.{taken_free}
use Rattle.rs_extent.proofs.laws.free_is_taken.Goals as goal

pub returns : goal.returns
returns c = taken_free
