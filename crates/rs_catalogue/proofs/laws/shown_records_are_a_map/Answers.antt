use Rattle.rs_catalogue.proofs.Shown.{map_values-bind, map_values-unbind, value-map_values}
use Rattle.rs_catalogue.proofs.laws.shown_records_are_a_map.Goals as goal

pub returns : goal.returns
returns c = record { bound = map_values-bind; unbound = map_values-unbind; found = value-map_values }
