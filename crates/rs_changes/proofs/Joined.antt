-- The pages of a history, joined.
pub use Rattle.rs_changes.proofs.FromBelow.{joined}
