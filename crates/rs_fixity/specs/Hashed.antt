-- The message that the two hashers have taken so far.
use Rattle.std.specs.Prelude.{ℕ, List}
use Rattle.md5.specs.Md5.{Holds as HoldsMd5}
use Rattle.sha2.specs.Hashers.{Holds256}
use Rattle.rs_fixity.specs.declared.hashing.Hashing.{Hashing}
use Rattle.rs_fixity.specs.declared.sha256.Sha256Hashing.{Sha256Hashing}

-- the pieces taken so far, joined, are the message m, for both digests
pub record HasTaken (h : Hashing) (m : List ℕ) : Type 0 where
  pub md5 : HoldsMd5 h.md5 m
  pub sha256 : Holds256 h.sha256 m

-- the same for the hasher of the SHA-256 alone
pub record HasTakenSha256 (h : Sha256Hashing) (m : List ℕ) : Type 0 where
  pub sha256 : Holds256 h.sha256 m
