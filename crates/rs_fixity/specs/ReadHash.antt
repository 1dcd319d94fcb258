-- Reading the text of two digests.
use Rattle.std.specs.Prelude.{ℕ, List, codes, Option}
use Rattle.std.specs.Result.{result_ok}
use Rattle.hex.specs.Hex.{decode_sized}
use Rattle.rs_fixity.specs.Cut.{◌>>=◌, strip, cut, if_written}
use Rattle.rs_fixity.specs.HashText.{hash_text_of}
use Rattle.rs_fixity.specs.declared.Digests.{Digests}

-- these digests, if the text is theirs: so digits in upper case are refused
abbrev pub if_text_of : List ℕ → Digests → Option Digests
if_text_of text d = if_written (hash_text_of d) text d

-- the digests, of 16 and of 32 bytes, that have this text, if some have
unfoldable pub read_hash : List ℕ → Option Digests
read_hash text = do
  a ← strip (codes "md5:") text
  md5 ← result_ok (decode_sized (cut 32 a).0 16)
  b ← strip (codes " sha-256:") (cut 32 a).1
  sha256 ← result_ok (decode_sized b 32)
  if_text_of text (record { md5 = md5; sha256 = sha256 })
