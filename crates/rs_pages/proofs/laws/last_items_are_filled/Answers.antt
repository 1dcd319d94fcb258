use Rattle.rs_pages.proofs.LastFilled.{last_is_filled, filling_appended}
use Rattle.rs_pages.proofs.laws.last_items_are_filled.Goals as goal

pub returns : goal.returns
returns g c = record { one = last_is_filled; after = filling_appended }
