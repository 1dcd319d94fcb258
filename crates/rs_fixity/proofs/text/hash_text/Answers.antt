use Rattle.std.proofs.Common.{◌≡◌, ◌+◌, ◌*◌, ◌++◌, ◌∙◌, length, take, drop, ℕ, List, [], arith, ap, sym, length-append, append-nil, rules}
use Rattle.std.specs.Prelude.{codes}
use Rattle.std.proofs.lemmas.List.{drop_all}
use Rattle.std.proofs.Math.Seq.{take-append-add}
use Rattle.hex.proofs.HexLemmas.{length-encode_with}
use Rattle.hex.specs.Hex.{lower_digits, encode_lower}
use Rattle.rs_fixity.proofs.text.hash_text.Goals as goal

-- the text before its digits are written
abbrev blank : List ℕ
blank = codes "md5:00000000000000000000000000000000 sha-256:0000000000000000000000000000000000000000000000000000000000000000"

-- the digits a of 16 bytes and then b of 32 bytes, written over it at their places
filled : (m s a b first second : List ℕ) → length m ≡ 16 → length s ≡ 32 → length a ≡ 2 * length m
    → first ≡ take 4 blank ++ a ++ drop (4 + 2 * length m) blank
    → second ≡ take 45 first ++ b ++ drop (45 + 2 * length s) first
    → second ≡ codes "md5:" ++ a ++ codes " sha-256:" ++ b
filled m s a b first second m-long s-long a-long first-is second-is =
    let x : List ℕ = codes "md5:" ++ a in
    let y : List ℕ = drop 36 blank in
    let x-long : length x ≡ 36 = omega arith in
    let is : first ≡ x ++ y = first-is ∙ ap (λ n. x ++ drop (4 + 2 * n) blank) m-long in
    let front : take 45 (x ++ y) ≡ x ++ codes " sha-256:" =
    ap (λ n. take (n + 9) (x ++ y)) (sym x-long) ∙ take-append-add x y 9 in
    let back : drop 109 (x ++ y) ≡ [] = drop_all 109 (x ++ y) (omega (arith, length-append x y)) in
    second-is ∙ ap (λ n. take 45 first ++ b ++ drop (45 + 2 * n) first) s-long
    ∙ ap (λ t. take 45 t ++ b ++ drop 109 t) is ∙ (λ i. front i ++ b ++ back i) ∙ append-nil (x ++ codes " sha-256:" ++ b)

pub returns : goal.returns
returns c =
    let d = c.args.digests.now in
    filled d.md5 d.sha256 (encode_lower d.md5) (encode_lower d.sha256) _ _ (search rules) (search rules)
    (length-encode_with lower_digits d.md5) c.put_digits.ensures c.put_digits-2.ensures
