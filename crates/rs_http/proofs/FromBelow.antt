-- The lemmas of the crates below that the proofs here cite.
pub use Rattle.rs_io.proofs.ForCallers.{failed_first, failed_last, later_fault, later_put_fault, on_fault, stops_first, stops_then, writes_either, writes_last, writes_same, wrote_then}
pub use Rattle.rs_disk.proofs.ForCallers.{reading_as}
pub use Rattle.rs_store.proofs.ForCallers.{begins_one, may_fit, no_reads, one_read, reads_behind, reads_last, sound_reads}
pub use Rattle.rs_lists.proofs.ForCallers.{length-moment_text}
pub use Rattle.rs_caps.proofs.ForCallers.{doc_of-exact}
pub use Rattle.rs_recovery.proofs.ForCallers.{told, walked}
