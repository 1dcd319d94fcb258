-- The lemmas of the crates below that the proofs here cite.
pub use Rattle.rs_extent.proofs.ForCallers.{apart_behind, apart_front, beside_behind, beside_between, beside_first, beside_front, in_one, not_true, some_behind, some_first, some_front, some_rest, some_split, within_is, within_true}
pub use Rattle.rs_disk.proofs.ForCallers.{advances, exit_images, goes_further, goes_on, nothing_read, nothing_synced, nothing_then, reading_as, reading_none, reading_on, reading_then, resting_image, resting_off, rests, rests_on, runs_one, started, weaker, went_well, writing_as, writing_none, writing_then}
pub use Rattle.rs_commit.proofs.ForCallers.{opens_stays, ready_opens, ready_stays}
pub use Rattle.rs_body.proofs.ForCallers.{fits_sized, only_as, only_none, only_on, only_then, outside_none, outside_on, part_kept, part_only}
pub use Rattle.rs_page.proofs.ForCallers.{pages_stand, written_stand, written_stay}
pub use Rattle.rs_model.proofs.ForCallers.{value-bind}
pub use Rattle.rs_catalogue.proofs.ForCallers.{value-map_values}
pub use Rattle.rs_image.proofs.ForCallers.{held_stays, keeps_behind, reaches_bodies, stands_once, tells_behind, tells_stays}
pub use Rattle.rs_plan.proofs.ForCallers.{IsPublished, needed, needed_anywhere, published_is}
pub use Rattle.rs_copy.proofs.ForCallers.{held_catalogue, held_history, read_among, read_once_more}
