-- The lemmas that the crates above may cite.
pub use Rattle.rs_directory.proofs.Entries.{same_entry}
pub use Rattle.rs_directory.proofs.OneDirectory.{length-directory_bytes, one_directory}
pub use Rattle.rs_directory.proofs.Pieces.{length-entries, length-ref_bytes}
