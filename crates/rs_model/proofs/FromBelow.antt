-- The lemmas of the crates below that the proofs here cite.
pub use Rattle.rs_fixity.proofs.ForCallers.{md5-bytes, sha256-bytes}
