-- The lemmas that the crates above may cite.
pub use Rattle.rs_io.proofs.Faults.{failed_after, failed_each, failed_first, failed_last, failed_same, failed_then, later_fault, later_put_fault, on_failed_last, on_fault, stops_first, stops_then, writes_either, writes_last, writes_same, writes_then}
pub use Rattle.rs_io.proofs.Growth.{flat_map-next, wrote_nothing, wrote_then}
