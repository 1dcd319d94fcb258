-- The lemmas that the crates above may cite.
pub use Rattle.rs_model.proofs.DropLemmas.{all_after, all_dropped, all_taken, dropped_within, few_parts, first_rises, last_joined, last_later, rest_rises, rises_after}
pub use Rattle.rs_model.proofs.MapLemmas.{other-bind, other-unbind, same_name, value-bind}
pub use Rattle.rs_model.proofs.OrderLemmas.{is_less, ordered-bind, ordered-unbind, swapped, tail_ordered}
pub use Rattle.rs_model.proofs.RegularLemmas.{next_regular}
pub use Rattle.rs_model.proofs.RoomLemmas.{at_most_if, below_if, length-bind, length-unbind, no_causes}
pub use Rattle.rs_model.proofs.Searches.{searched}
pub use Rattle.rs_model.proofs.WalkLemmas.{recorded-append, recorded_first, walk-append}
