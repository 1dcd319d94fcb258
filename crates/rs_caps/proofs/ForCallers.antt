-- The lemmas that the crates above may cite.
pub use Rattle.rs_caps.proofs.PathsRead.{doc_of-exact}
