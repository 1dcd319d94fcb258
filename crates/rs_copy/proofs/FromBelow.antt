-- The lemmas of the crates below that the proofs here cite.
pub use Rattle.rs_extent.proofs.ForCallers.{apart_behind, apart_between, apart_front, beside_between, beside_front, in_one, none_behind, none_front, not_both, not_true, some_behind, some_first, some_front, some_rest, taken_before, taken_both, taken_none, within_true}
pub use Rattle.rs_disk.proofs.ForCallers.{advances, advances_on, goes_further, goes_on, reading_none, resting_image, rests, rests_on, stops_on, weaker, writing_none}
pub use Rattle.rs_commit.proofs.ForCallers.{current_stays}
pub use Rattle.rs_body.proofs.ForCallers.{fits_sized, only_as, only_none, only_then, outside_on, part_kept, part_only}
pub use Rattle.rs_page.proofs.ForCallers.{standing_are_pages, written_stand, written_stay}
pub use Rattle.rs_pages.proofs.ForCallers.{settled_places, taken_places}
pub use Rattle.rs_catalogue.proofs.ForCallers.{joined}
pub use Rattle.rs_changes.proofs.ForCallers.{joined_changes}
pub use Rattle.rs_image.proofs.ForCallers.{each_at_end, each_more, is_behind, keeps_behind, shared_blocks, tells_behind}
pub use Rattle.rs_plan.proofs.ForCallers.{length_stored, needed, pages_stored, places_items, places_length, room_after, room_none, same_taken, stored_items, taken_lowest}
