-- The text of two digests in the form of the attribute `hash` of ResourceSync (Z39.99): for both digests the name and
-- the hexadecimal digits, with a space between the two.
use Rattle.std.specs.Prelude.{ℕ, List, ◌++◌, codes}
use Rattle.hex.specs.Hex.{encode_lower}
use Rattle.rs_fixity.specs.declared.Digests.{Digests}

-- `md5:`, 32 digits, a space, `sha-256:`, 64 digits
abbrev pub hash_text_of : Digests → List ℕ
hash_text_of d = codes "md5:" ++ encode_lower d.md5 ++ codes " sha-256:" ++ encode_lower d.sha256
