-- The lemmas that the crates above may cite.
pub use Rattle.rs_time.proofs.MomentTexts.{moment_text-bytes, read_moment-text}
