use Rattle.rs_model.proofs.MapLemmas.{value-bind, other-bind, value-unbind, other-unbind}
use Rattle.rs_model.proofs.laws.names_are_a_map.Goals as goal

pub returns-clause-bound : goal.returns-clause-bound
returns-clause-bound g c = value-bind

pub returns-clause-bound_alone : goal.returns-clause-bound_alone
returns-clause-bound_alone g c = other-bind

pub returns-clause-unbound : goal.returns-clause-unbound
returns-clause-unbound g c = value-unbind

pub returns-clause-unbound_alone : goal.returns-clause-unbound_alone
returns-clause-unbound_alone g c = other-unbind
