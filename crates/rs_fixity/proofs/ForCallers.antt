-- The lemmas that the crates above may cite.
pub use Rattle.rs_fixity.proofs.CutLemmas.{cut_value, lacks_by, strip_own, then_gave, then_some}
pub use Rattle.rs_fixity.proofs.DigestBytes.{md5-bytes, sha256-bytes}
pub use Rattle.rs_fixity.proofs.HashTexts.{hash_text-passes, read_hash-text}
