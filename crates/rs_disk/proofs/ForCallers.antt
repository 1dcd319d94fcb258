-- The lemmas that the crates above may cite.
pub use Rattle.rs_disk.proofs.Images.{back_part, front_part, over_byte, over_part, over_torn, resting_image, resting_medium, resting_off, settled_front, torn_above, torn_below, torn_byte, torn_part, written_medium}
pub use Rattle.rs_disk.proofs.Runs.{advances, advances_on, going_on, nothing_read, nothing_synced, nothing_then, reading_as, reading_none, reading_on, reading_one, reading_then, rests, rests_on, runs_one, stops_on, went_well, writing_as, writing_none, writing_on, writing_one, writing_then}
pub use Rattle.rs_disk.proofs.Steps.{counts_calls, exit_images, goes_further, goes_on, same_goes_on, same_weaker, started, weaker, write_leaves}
