-- The lemmas that the crates above may cite.
pub use Rattle.rs_changes.proofs.Joined.{joined as joined_changes}
