-- Lengths of the pieces of a text.
use Rattle.std.proofs.Common.{◌≡◌, ℕ, ◌+◌, ◌*◌, ◌++◌, length, refl, length-append, arith}
use Rattle.std.specs.Prelude.{codes}
use Rattle.hex.specs.Hex.{encode_lower, lower_digits}
use Rattle.hex.proofs.HexLemmas.{length-encode_with}
use Rattle.rs_time.specs.Moment.{moment_text}
use Rattle.rs_fixity.specs.HashText.{hash_text_of}
use Rattle.rs_fixity.specs.declared.Digests.{Digests}

pub length-moment_text : (t : ℕ) → length (moment_text t) ≡ 24
unfolding moment_text
length-moment_text t = refl

pub length-hash_text_of : (d : Digests) → length (hash_text_of d) ≡ 13 + 2 * (length d.md5 + length d.sha256)
length-hash_text_of d =
    let a = length-encode_with lower_digits d.md5 in
    let b = length-encode_with lower_digits d.sha256 in
    let joined = length-append (encode_lower d.md5) (codes " sha-256:" ++ encode_lower d.sha256) in
    grind (arith, length-append)
