-- The lemmas that the crates above may cite.
pub use Rattle.rs_image.proofs.Counts.{HasItems, count_refs, few_catalogue, few_history}
pub use Rattle.rs_image.proofs.Each.{each_at_end, each_more}
pub use Rattle.rs_image.proofs.Frame.{held_stays, is_behind, keeps_behind, tells_behind, tells_stays}
pub use Rattle.rs_image.proofs.Once.{stands_once}
pub use Rattle.rs_image.proofs.Reaching.{reaches_bodies, shared_blocks}
