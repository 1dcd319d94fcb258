-- The lemmas that the crates above may cite.
pub use Rattle.rs_lists.proofs.Lengths.{length-moment_text}
pub use Rattle.rs_lists.proofs.Parts.{parts_cover, parts_tight, scale}
