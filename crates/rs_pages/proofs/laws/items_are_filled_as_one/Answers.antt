use Rattle.rs_pages.proofs.NamedFilled.{filling_is_one, filling_bound}
use Rattle.rs_pages.proofs.laws.items_are_filled_as_one.Goals as goal

pub returns : goal.returns
returns g c = record { one = filling_is_one g.T.Named.name; after = filling_bound g.T.Named.name }
