use Rattle.rs_model.proofs.WalkLemmas.{passed}
use Rattle.rs_model.proofs.walk_laws.walks_pass_each_count.Goals as goal

pub returns : goal.returns
returns c = passed
