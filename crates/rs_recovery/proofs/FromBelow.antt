-- The lemmas of the crates below that the proofs here cite.
pub use Rattle.rs_disk.proofs.ForCallers.{exit_images, goes_on, resting_image, started}
pub use Rattle.rs_model.proofs.ForCallers.{next_regular}
pub use Rattle.rs_store.proofs.ForCallers.{all_closed, answered_rise, begins_one, closed_is_no_device, closed_is_no_ok, doubt_stays, held_is, may_fit, none_counts}
