-- Digests are bytes, 16 of MD5 and 32 of SHA-256.
use Rattle.std.proofs.Common.{◌≡◌, ℕ, suc, zero, ◌/◌, ◌<◌, List, length, arith, refl, nat_lt, ◌≤◌, Bool, true, false}
use Rattle.std.specs.Prelude.{slice_index}
use Rattle.std.specs.List.{All}
use Rattle.std.specs.Int.{w32, to_le_bytes, to_be_bytes, byte_at, bytes_low_first, bytes_high_first}
use Rattle.std.proofs.lemmas.List.Elements.{All-nil, All-cons, All-append}
use Rattle.std.proofs.lemmas.List.{get_or_past}
use Rattle.std.proofs.lemmas.Bool.Decides.{nat_tests}
use Rattle.hex.specs.Hex.{IsBytes}
use Rattle.md5.specs.Md5.{md5, digest_bytes, hash_after, padded_message}
use Rattle.md5.proofs.StandardFacts.{length-md5}
use Rattle.sha2.specs.Sha256.{sha256, digest_bytes as digest_bytes_256, final_hash, initial_hash_256}
use Rattle.sha2.proofs.Facts256.{length-sha256}
use Rattle.rs_fixity.specs.Digests.{AreNBytes}

-- a number below 256
abbrev IsByte : ℕ → Type 0
IsByte b = b < 256

-- the bytes of a number, and the words that a digest ends with
one_byte : (i n : ℕ) → byte_at i n < 256
one_byte zero n = omega arith
one_byte (suc i) n = omega arith

low_first : (i count n : ℕ) → All IsByte (bytes_low_first i count n)
low_first i zero n = All-nil IsByte
low_first i (suc count) n =
    All-cons IsByte (byte_at i n) (bytes_low_first (suc i) count n) (one_byte i n) (low_first (suc i) count n)

high_first : (count n : ℕ) → All IsByte (bytes_high_first count n)
high_first zero n = All-nil IsByte
high_first (suc count) n =
    All-cons IsByte (byte_at count n) (bytes_high_first count n) (one_byte count n) (high_first count n)

md5_words : (h : List ℕ) (n : ℕ) → All IsByte (digest_bytes h n)
unfolding digest_bytes
md5_words h zero = All-nil IsByte
md5_words h (suc n) =
    let word : ℕ = slice_index h n in
    All-append IsByte (digest_bytes h n) (to_le_bytes w32 word) (md5_words h n) (low_first 0 4 word)

sha256_words : (h : List ℕ) (n : ℕ) → All IsByte (digest_bytes_256 h n)
unfolding digest_bytes_256
sha256_words h zero = All-nil IsByte
sha256_words h (suc n) =
    let word : ℕ = slice_index h n in
    All-append IsByte (digest_bytes_256 h n) (to_be_bytes w32 word) (sha256_words h n) (high_first 4 word)

by_place : (b : Bool) (bytes : List ℕ) (i : ℕ) → nat_lt i (length bytes) ≡ b → All IsByte bytes
    → slice_index bytes i < 256
by_place true bytes i e h = let low : i < length bytes = grind (arith, nat_tests) in h i 0 low
by_place false bytes i e h =
    let past : length bytes ≤ i = grind (arith, nat_tests) in
    rw (get_or_past bytes i 0 past) (omega arith)

bytes_all : (bytes : List ℕ) → All IsByte bytes → IsBytes bytes
bytes_all bytes h i = by_place _ bytes i refl h

pub md5-bytes : (m : List ℕ) → AreNBytes 16 (md5 m)
unfolding md5
md5-bytes m =
    let blocks : ℕ = length (padded_message m) / 64 in
    (length-md5 m, bytes_all _ (md5_words (hash_after (padded_message m) blocks) 4))

pub sha256-bytes : (m : List ℕ) → AreNBytes 32 (sha256 m)
unfolding sha256
sha256-bytes m = (length-sha256 m, bytes_all _ (sha256_words (final_hash initial_hash_256 m) 8))
