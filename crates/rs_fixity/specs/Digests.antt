-- The digests of a list of bytes: MD5 (RFC 1321) and SHA-256 (FIPS 180-4) of the whole list.
use Rattle.std.specs.Prelude.{◌≡◌, ℕ, List, length}
use Rattle.md5.specs.Md5.{md5 as md5_of}
use Rattle.sha2.specs.Sha256.{sha256 as sha256_of}
use Rattle.hex.specs.Hex.{IsBytes}
use Rattle.rs_fixity.specs.declared.Digests.{Digests}

-- both digests of a message
abbrev pub digests : List ℕ → Digests
digests m = record { md5 = md5_of m; sha256 = sha256_of m }

-- a list of n bytes
abbrev pub AreNBytes : ℕ → List ℕ → Type 0
AreNBytes n bytes = (length bytes ≡ n) × IsBytes bytes
