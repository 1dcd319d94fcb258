use Rattle.rs_extent.proofs.InTurn.{taken_is_given_back}
use Rattle.rs_extent.proofs.laws.taken_is_given_back.Goals as goal

pub returns : goal.returns
returns c = taken_is_given_back
