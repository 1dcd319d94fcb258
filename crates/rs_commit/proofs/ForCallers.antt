-- The lemmas that the crates above may cite.
pub use Rattle.rs_commit.proofs.Contents.{current_stays, opens_once, opens_stays}
pub use Rattle.rs_commit.proofs.Ready.{ready_opens, ready_stays}
