-- The lemmas that the crates above may cite.
pub use Rattle.rs_copy.proofs.MovedBodies.{read_among, read_once_more}
pub use Rattle.rs_copy.proofs.Told.{held_catalogue, held_history}
