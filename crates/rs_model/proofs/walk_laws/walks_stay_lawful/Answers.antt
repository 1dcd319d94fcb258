use Rattle.rs_model.proofs.WalkLemmas.{walk_lawful}
use Rattle.rs_model.proofs.walk_laws.walks_stay_lawful.Goals as goal

pub returns : goal.returns
returns c = walk_lawful
