use Rattle.rs_caps.proofs.Destinations.{fetched_listed_stay, fetched_closed_stay}
use Rattle.rs_caps.proofs.laws.destination.fetched_parts_stay.Goals as goal

pub returns-clause-listed : goal.returns-clause-listed
returns-clause-listed c = fetched_listed_stay c.walks_are_folds.ensures

pub returns-clause-closed : goal.returns-clause-closed
returns-clause-closed c = fetched_closed_stay c.walks_are_folds.ensures c.walks_stay_lawful.ensures c.changes_are_kept.ensures
