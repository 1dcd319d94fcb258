-- The lemmas of the crates below that the proofs here cite.
pub use Rattle.rs_extent.proofs.ForCallers.{some_first, some_rest}
pub use Rattle.rs_body.proofs.ForCallers.{fits_sized, only_as, part_kept, part_only}
pub use Rattle.rs_record.proofs.ForCallers.{a_change, a_record, alone}
