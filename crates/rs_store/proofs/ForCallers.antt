-- The lemmas that the crates above may cite.
pub use Rattle.rs_store.proofs.Answering.{are_answered, doubt_stays, each_moment, held_is}
pub use Rattle.rs_store.proofs.Moments.{all_closed, answered_leave_prefixes, answered_rise, holds_all}
pub use Rattle.rs_store.proofs.ReaderCounts.{no_reads, one_read, reads_behind, reads_last, sound_reads}
pub use Rattle.rs_store.proofs.Received.{begins_one, may_fit}
pub use Rattle.rs_store.proofs.Turns.{closed_is_no_device, closed_is_no_ok, closed_run, none_counts}
