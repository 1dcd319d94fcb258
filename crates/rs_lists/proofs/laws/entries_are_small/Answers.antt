use Rattle.rs_lists.proofs.Bounds.{location_small, resource_entry_small, change_entry_small, base_length}
use Rattle.rs_lists.proofs.LawfulSizes.{lawful_resource_small, lawful_change_small}
use Rattle.rs_lists.proofs.laws.entries_are_small.Goals as goal

pub returns-clause-location : goal.returns-clause-location
returns-clause-location c = location_small

pub returns-clause-resource : goal.returns-clause-resource
returns-clause-resource c = lawful_resource_small

pub returns-clause-change : goal.returns-clause-change
returns-clause-change c = lawful_change_small

pub returns-clause-resource_part : goal.returns-clause-resource_part
returns-clause-resource_part c = λ s k h n. resource_entry_small s k (base_length s.base h.base) h.number n

pub returns-clause-change_part : goal.returns-clause-change_part
returns-clause-change_part c = λ s k h n. change_entry_small s k (base_length s.base h.base) n
