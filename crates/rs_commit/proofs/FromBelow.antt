-- The lemmas of the crates below that the proofs here cite.
pub use Rattle.rs_disk.proofs.ForCallers.{back_part, exit_images, front_part, goes_on, nothing_synced, over_byte, over_part, over_torn, reading_one, resting_image, resting_off, same_goes_on, same_weaker, settled_front, started, torn_byte, torn_part, weaker, write_leaves, writing_one, writing_then}
