-- The lemmas of the crates below that the proofs here cite.
pub use Rattle.rs_disk.proofs.ForCallers.{resting_medium, written_medium}
