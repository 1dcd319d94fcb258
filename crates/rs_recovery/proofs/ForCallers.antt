-- The lemmas that the crates above may cite.
pub use Rattle.rs_recovery.proofs.Walked.{told, walk_behind, walk_is, walked}
