use Rattle.rs_model.proofs.LawfulLemmas.{step_lawful, fold_lawful}
use Rattle.rs_model.proofs.laws.lawful_stays.Goals as goal

pub returns-clause-step : goal.returns-clause-step
returns-clause-step c = step_lawful

pub returns-clause-fold : goal.returns-clause-fold
returns-clause-fold c = fold_lawful
