use Rattle.rs_model.proofs.WalkLemmas.{walk_records}
use Rattle.rs_model.proofs.WalkHistory.{held_is_catalogued, held_then_is_catalogued, list_is_followed, kept_list_is_followed}
use Rattle.rs_model.proofs.walk_laws.walks_are_catalogued.Goals as goal

pub returns-clause-recorded : goal.returns-clause-recorded
returns-clause-recorded c = walk_records

pub returns-clause-held : goal.returns-clause-held
returns-clause-held c = held_is_catalogued

pub returns-clause-held_then : goal.returns-clause-held_then
returns-clause-held_then c = held_then_is_catalogued

pub returns-clause-followed : goal.returns-clause-followed
returns-clause-followed c = list_is_followed

pub returns-clause-kept_followed : goal.returns-clause-kept_followed
returns-clause-kept_followed c = kept_list_is_followed
