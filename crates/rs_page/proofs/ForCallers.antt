-- The lemmas that the crates above may cite.
pub use Rattle.rs_page.proofs.Apart.{changes_apart, records_apart}
pub use Rattle.rs_page.proofs.OneList.{pages_hold_once}
pub use Rattle.rs_page.proofs.Standing.{pages_stand, pages_stay, standing_are_pages, written_stand, written_stay}
