-- The lemmas of the crates below that the proofs here cite.
pub use Rattle.rs_extent.proofs.ForCallers.{beside_first, outside, turned, within_is, within_true}
pub use Rattle.rs_disk.proofs.ForCallers.{counts_calls, over_torn, same_goes_on, same_weaker, started, torn_above, torn_below, weaker, went_well, write_leaves, writing_as, writing_none, writing_on, writing_one}
