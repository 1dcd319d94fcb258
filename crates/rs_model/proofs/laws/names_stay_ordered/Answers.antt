use Rattle.rs_model.proofs.OrderLemmas.{ordered-bind, ordered-unbind, ordered_mirror}
use Rattle.rs_model.proofs.laws.names_stay_ordered.Goals as goal

pub returns-clause-bound : goal.returns-clause-bound
returns-clause-bound g c = ordered-bind

pub returns-clause-unbound : goal.returns-clause-unbound
returns-clause-unbound g c = ordered-unbind

pub returns-clause-mirrored : goal.returns-clause-mirrored
returns-clause-mirrored g c = ordered_mirror
