-- The lemmas that the crates above may cite.
pub use Rattle.rs_catalogue.proofs.Joined.{joined}
pub use Rattle.rs_catalogue.proofs.Shown.{map_values-bind, map_values-unbind, value-map_values}
