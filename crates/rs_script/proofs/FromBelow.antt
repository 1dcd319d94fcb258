-- The lemmas of the crates below that the proofs here cite.
pub use Rattle.rs_io.proofs.ForCallers.{failed_after, failed_each, failed_same, failed_then, flat_map-next, later_fault, on_fault, stops_first, stops_then, writes_either, writes_last, writes_then, wrote_nothing, wrote_then}
pub use Rattle.rs_disk.proofs.ForCallers.{reading_none, rests}
pub use Rattle.rs_model.proofs.ForCallers.{walk-append}
pub use Rattle.rs_items.proofs.ForCallers.{fields-cut, fields-last, fields-zero, no_item, position-none, position-some}
pub use Rattle.rs_caps.proofs.ForCallers.{doc_of-exact}
pub use Rattle.rs_recovery.proofs.ForCallers.{told, walk_behind, walk_is, walked}
