use Rattle.rs_model.proofs.ItemLemmas.{items_make, front_changes}
use Rattle.rs_model.proofs.GroupLemmas.{group_steps, bad_refused, front_accepted, groups_come}
use Rattle.rs_model.proofs.laws.groups_step_in_turn.Goals as goal

pub returns-clause-steps : goal.returns-clause-steps
returns-clause-steps c = group_steps

pub returns-clause-bad : goal.returns-clause-bad
returns-clause-bad c = bad_refused

pub returns-clause-changes : goal.returns-clause-changes
returns-clause-changes c = items_make

pub returns-clause-fronts : goal.returns-clause-fronts
returns-clause-fronts c = front_accepted

pub returns-clause-first : goal.returns-clause-first
returns-clause-first c = front_changes

pub returns-clause-moment : goal.returns-clause-moment
returns-clause-moment c = groups_come
