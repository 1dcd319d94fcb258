use Rattle.rs_model.proofs.WalkLemmas.{walk-fold}
use Rattle.rs_model.proofs.walk_laws.walks_are_folds.Goals as goal

pub returns : goal.returns
returns c = walk-fold
