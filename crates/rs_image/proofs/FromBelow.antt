-- The lemmas of the crates below that the proofs here cite.
pub use Rattle.rs_extent.proofs.ForCallers.{can_behind, can_front, some_behind, some_first, some_front, some_rest, some_split, taken_before, within_is, within_true}
pub use Rattle.rs_disk.proofs.ForCallers.{reading_as, reading_then}
pub use Rattle.rs_commit.proofs.ForCallers.{opens_once}
pub use Rattle.rs_body.proofs.ForCallers.{fits_sized, part_kept}
pub use Rattle.rs_page.proofs.ForCallers.{changes_apart, pages_hold_once, pages_stand, pages_stay, records_apart}
pub use Rattle.rs_directory.proofs.ForCallers.{length-entries, length-ref_bytes, one_directory, same_entry}
