-- The lemmas of the crates below that the proofs here cite.
pub use Rattle.rs_model.proofs.ForCallers.{length-bind, length-unbind, ordered-bind, ordered-unbind}
pub use Rattle.rs_pages.proofs.ForCallers.{items_kept, joined, same_joined}
