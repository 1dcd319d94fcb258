-- The lemmas that the crates above may cite.
pub use Rattle.rs_plan.proofs.Anywhere.{needed_anywhere}
pub use Rattle.rs_plan.proofs.Extents.{same_taken, taken_lowest}
pub use Rattle.rs_plan.proofs.Parts.{IsPublished, published_is}
pub use Rattle.rs_plan.proofs.Placing.{needed, places_items, places_length, room_after, room_none}
pub use Rattle.rs_plan.proofs.Stored.{all_stored as pages_stored, length_stored, stored_items}
