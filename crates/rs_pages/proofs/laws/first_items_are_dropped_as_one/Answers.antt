use Rattle.rs_pages.proofs.Dropped.{drops_as_one, dropping_touches_few, dropping_replaces_front, dropping_has_items, dropping_keeps}
use Rattle.rs_pages.proofs.laws.first_items_are_dropped_as_one.Goals as goal

pub returns : goal.returns
returns g c = record { dropped = drops_as_one; touched = dropping_touches_few; front = dropping_replaces_front; some = dropping_has_items; keeps = dropping_keeps }
