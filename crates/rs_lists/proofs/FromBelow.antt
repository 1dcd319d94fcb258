-- The lemmas of the crates below that the proofs here cite.
pub use Rattle.rs_io.proofs.ForCallers.{failed_then, flat_map-next, on_failed_last, on_fault, wrote_then}
