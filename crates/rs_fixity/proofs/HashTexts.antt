-- The text of two digests reads as the digests, and has only hexadecimal digits and the two names.
use Rattle.std.proofs.Common.{◌≡◌, ℕ, suc, zero, ◌/◌, ◌%◌, List, [], ◌∷◌, ◌++◌, refl, sym, ap, ◌∙◌, get_or, Option, Some, Bool, true, append_assoc, Result, Ok, Err, subst, arith, length, ◌*◌}
use Rattle.std.specs.Prelude.{codes, ◌==◌, ◌&&◌, not, IsTrue}
use Rattle.std.specs.List.{list_all, Contains}
use Rattle.std.specs.Cmp.{first_so, second_so}
use Rattle.std.specs.Result.{result_ok}
use Rattle.std.proofs.lemmas.List.Folds.{list_all-append}
use Rattle.hex.specs.Hex.{encode_with, encode_lower, lower_digits, decode_sized}
use Rattle.hex.specs.declared.error.FromHexError.{FromHexError}
use Rattle.hex.proofs.HexLemmas.{decode_sized-encode_lower, decode_sized-ok, decode_sized-twice, decode_of-ok}
use Rattle.rs_fixity.specs.Digests.{AreNBytes}
use Rattle.rs_fixity.specs.declared.Digests.{Digests}
use Rattle.rs_fixity.specs.HashText.{hash_text_of}
use Rattle.rs_fixity.specs.Cut.{◌>>=◌, strip, cut, lacks}
use Rattle.rs_fixity.specs.ReadHash.{if_text_of, read_hash}
use Rattle.rs_fixity.proofs.CutLemmas.{then_some, then_gave, cut_value, if_written_own, if_written_gave, passes, lacks-Contains}

both_pass : (p : ℕ → Bool) (a b : List ℕ) → list_all p a ≡ true → list_all p b ≡ true
    → list_all p (a ++ b) ≡ true
both_pass p a b h k = list_all-append p a b ∙ (λ i. h i && k i)

digit_passes : (p : ℕ → Bool) (digits : List ℕ) (i : ℕ) → p 0 ≡ true → list_all p digits ≡ true
    → p (get_or digits i 0) ≡ true
digit_passes p [] i z h = z
digit_passes p (c ∷ digits) zero z h = first_so (p c) (list_all p digits) h
digit_passes p (c ∷ digits) (suc i) z h = digit_passes p digits i z (second_so (p c) (list_all p digits) h)

digits_pass : (p : ℕ → Bool) → p 0 ≡ true → list_all p lower_digits ≡ true → (bytes : List ℕ)
    → list_all p (encode_lower bytes) ≡ true
unfolding encode_with
digits_pass p z h [] = refl
digits_pass p z h (b ∷ bytes) =
    let high = digit_passes p lower_digits (b / 16) z h in
    let low = digit_passes p lower_digits (b % 16) z h in
    λ i. high i && (low i && digits_pass p z h bytes i)

-- a test that both names, the digits and 0 pass is passed by the whole text
pub hash_text-passes : (p : ℕ → Bool) → list_all p (codes "md5:") ≡ true → list_all p (codes " sha-256:") ≡ true
    → list_all p lower_digits ≡ true → p 0 ≡ true → (d : Digests) → list_all p (hash_text_of d) ≡ true
hash_text-passes p md5 sha256 digits z d =
    let front : List ℕ = codes "md5:" ++ encode_lower d.md5 in
    let front_passes = both_pass p (codes "md5:") (encode_lower d.md5) md5 (digits_pass p z digits d.md5) in
    both_pass p (front ++ codes " sha-256:") (encode_lower d.sha256)
    (both_pass p front (codes " sha-256:") front_passes sha256) (digits_pass p z digits d.sha256)

-- the line feed and the five characters that XML has references for
abbrev marks : List ℕ
marks = 10 ∷ codes "\"&'<>"

all_lacking : (d : Digests) → list_all (λ mark. lacks mark (hash_text_of d)) marks ≡ true
all_lacking d =
    λ i. hash_text-passes (λ c. not (c == 10)) refl refl refl refl d i
    && (hash_text-passes (λ c. not (c == 34)) refl refl refl refl d i
    && (hash_text-passes (λ c. not (c == 38)) refl refl refl refl d i
    && (hash_text-passes (λ c. not (c == 39)) refl refl refl refl d i
    && (hash_text-passes (λ c. not (c == 60)) refl refl refl refl d i
    && (hash_text-passes (λ c. not (c == 62)) refl refl refl refl d i && true)))))

pub hash_text-unescaped : (d : Digests) (mark : ℕ) → Contains (10 ∷ codes "\"&'<>") mark
    → ¬ Contains (hash_text_of d) mark
hash_text-unescaped d mark is_mark =
    lacks-Contains mark (hash_text_of d) (passes (λ m. lacks m (hash_text_of d)) marks mark (all_lacking d) is_mark)

decoded : (bytes : List ℕ) (n : ℕ) → AreNBytes n bytes
    → result_ok (decode_sized (encode_lower bytes) n) ≡ Some bytes
decoded bytes n h = ap result_ok (decode_sized-encode_lower bytes n h.0 h.1)

-- the steps of the reading: from both digests on, from the first, and from the text after its name
abbrev with_both : List ℕ → List ℕ → List ℕ → Option Digests
with_both text md5 sha256 = if_text_of text (record { md5 = md5; sha256 = sha256 })

abbrev with_rest : List ℕ → List ℕ → List ℕ → Option Digests
with_rest text md5 digits = result_ok (decode_sized digits 32) >>= with_both text md5

abbrev with_md5 : List ℕ → List ℕ → List ℕ → Option Digests
with_md5 text rest md5 = strip (codes " sha-256:") rest >>= with_rest text md5

abbrev with_parts : List ℕ → List ℕ × List ℕ → Option Digests
with_parts text parts = result_ok (decode_sized parts.0 16) >>= with_md5 text parts.1

-- the text of digests reads as the digests
pub read_hash-text : (d : Digests) → AreNBytes 16 d.md5 → AreNBytes 32 d.sha256
    → read_hash (hash_text_of d) ≡ Some d
unfolding read_hash strip
read_hash-text d md5-bytes sha256-bytes =
    let text : List ℕ = hash_text_of d in
    let md5 : List ℕ = encode_lower d.md5 in
    let sha256 : List ℕ = encode_lower d.sha256 in
    let no_space : IsTrue (lacks 32 md5) = digits_pass (λ c. not (c == 32)) refl refl d.md5 in
    let parts : cut 32 (md5 ++ codes " sha-256:" ++ sha256) ≡ (md5, codes " sha-256:" ++ sha256) =
    ap (cut 32) (append_assoc md5 (codes " sha-256:") sha256)
    ∙ cut_value 32 md5 (codes "sha-256:" ++ sha256) no_space in
    let last = if_written_own text d in
    let second = then_some _ (with_both text d.md5) d.sha256 (Some d) (decoded d.sha256 32 sha256-bytes) last in
    ap (with_parts text) parts
    ∙ then_some _ (with_md5 text (codes " sha-256:" ++ sha256)) d.md5 (Some d) (decoded d.md5 16 md5-bytes) second

ok_given : (r : Result (List ℕ) FromHexError) (bytes : List ℕ) → result_ok r ≡ Some bytes → r ≡ Ok bytes
ok_given (Ok x) bytes e = cc
ok_given (Err x) bytes e = cc

decoded_bytes : (digits : List ℕ) (n : ℕ) (bytes : List ℕ) → result_ok (decode_sized digits n) ≡ Some bytes
    → AreNBytes n bytes
decoded_bytes digits n bytes e =
    let is = ok_given (decode_sized digits n) bytes e in
    let long : length digits ≡ 2 * n = decode_sized-ok digits n bytes is in
    let ok = decode_of-ok digits bytes (sym (decode_sized-twice digits n long) ∙ is) in
    (omega (arith, ok.2), ok.3)

if_text_of-gave : (text : List ℕ) (d given : Digests) → AreNBytes 16 d.md5 → AreNBytes 32 d.sha256
    → if_text_of text d ≡ Some given
    → AreNBytes 16 given.md5 × AreNBytes 32 given.sha256 × (text ≡ hash_text_of given)
if_text_of-gave text d given md5-bytes sha256-bytes e =
    let is = if_written_gave (hash_text_of d) text d given e in
    let P : Digests → Type 0 = λ x. AreNBytes 16 x.md5 × AreNBytes 32 x.sha256 × (text ≡ hash_text_of x) in
    subst P is.1 (md5-bytes, sha256-bytes, sym is.0)

-- and no other text does
pub read_hash-exact : (text : List ℕ) (d : Digests) → read_hash text ≡ Some d
    → AreNBytes 16 d.md5 × AreNBytes 32 d.sha256 × (text ≡ hash_text_of d)
unfolding read_hash
read_hash-exact text d e =
    let front = then_gave (strip (codes "md5:") text) (λ a. with_parts text (cut 32 a)) d e in
    let parts : List ℕ × List ℕ = cut 32 front.0 in
    let md5 = then_gave (result_ok (decode_sized parts.0 16)) (with_md5 text parts.1) d front.2 in
    let digits = then_gave (strip (codes " sha-256:") parts.1) (with_rest text md5.0) d md5.2 in
    let sha256 = then_gave (result_ok (decode_sized digits.0 32)) (with_both text md5.0) d digits.2 in
    if_text_of-gave text (record { md5 = md5.0; sha256 = sha256.0 }) d (decoded_bytes parts.0 16 md5.0 md5.1)
    (decoded_bytes digits.0 32 sha256.0 sha256.1) sha256.2
