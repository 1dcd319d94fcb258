use Rattle.rs_model.proofs.RegularLemmas.{parts_left}
use Rattle.rs_model.proofs.laws.parts_do_not_run_out.Goals as goal

pub returns : goal.returns
returns c = parts_left
