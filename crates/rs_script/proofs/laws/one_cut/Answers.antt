use Rattle.rs_script.proofs.Cut.{Splits-once}
use Rattle.rs_script.proofs.laws.one_cut.Goals as goal

pub returns : goal.returns
returns c = Splits-once
