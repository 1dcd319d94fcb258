use Rattle.rs_model.proofs.LaterChangesLemmas.{fold_keeps}
use Rattle.rs_model.proofs.laws.changes_are_kept.Goals as goal

pub returns : goal.returns
returns c = fold_keeps
