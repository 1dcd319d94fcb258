-- The lemmas that the crates above may cite.
pub use Rattle.rs_pages.proofs.EachPage.{each_page, items_of-each, found-each, bound-each, unbound-each}
pub use Rattle.rs_pages.proofs.Flat.{found_at_home}
pub use Rattle.rs_pages.proofs.Home.{above_lower}
pub use Rattle.rs_pages.proofs.Joined.{joined, same_joined}
pub use Rattle.rs_pages.proofs.Taken.{settled_places, taken_places}
pub use Rattle.rs_pages.proofs.Touched.{touching_keeps}
pub use Rattle.rs_pages.proofs.Writing.{items_kept}
