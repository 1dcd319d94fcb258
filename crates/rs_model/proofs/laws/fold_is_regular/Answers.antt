use Rattle.rs_model.proofs.RegularLemmas.{fold_regular, fold_timely}
use Rattle.rs_model.proofs.laws.fold_is_regular.Goals as goal

pub returns-clause-regular : goal.returns-clause-regular
returns-clause-regular c = fold_regular

pub returns-clause-timely : goal.returns-clause-timely
returns-clause-timely c = fold_timely
