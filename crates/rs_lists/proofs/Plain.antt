-- Texts that escaping leaves unchanged, for example a base.
use Rattle.std.proofs.Common.{◌≡◌, ℕ, List, [], ◌∷◌, ◌++◌, length, take, drop, refl, ap, ◌∙◌, arith, Bool, true, false, nat_lt, nat_eq, subst}
use Rattle.std.specs.Prelude.{codes, IsTrue, ◌==◌, ◌||◌, not, if◌then◌else◌}
use Rattle.std.specs.List.{list_all, ends_with}
use Rattle.std.specs.Cmp.{first_so, second_so}
use Rattle.std.specs.Cmp.Lexicographic.{pointwise}
use Rattle.std.proofs.lemmas.Bool.{and_from}
use Rattle.std.proofs.lemmas.Bool.Decides.{nat_tests}
use Rattle.std.proofs.lemmas.Grind.{flat_map-append}
use Rattle.std.proofs.Common.{append_assoc}
use Rattle.rs_record.specs.Base.{is_base, is_base_char, has_scheme, uri}
use Rattle.rs_lists.specs.Escape.{escape, escaped}

-- a byte that passes a test differs from a character that fails it
unlike_by : (b : Bool) (p : ℕ → Bool) (mark c : ℕ) → (c == mark) ≡ b → p mark ≡ false → IsTrue (p c) → b ≡ false
unlike_by true p mark c e h k = let is : c ≡ mark = grind (arith, nat_tests) in cc
unlike_by false p mark c e h k = refl

unlike : (p : ℕ → Bool) (mark c : ℕ) → p mark ≡ false → IsTrue (p c) → (c == mark) ≡ false
unlike p mark c h k = unlike_by (c == mark) p mark c refl h k

none_of_five : (a b d e f : Bool) (v w x y z l : List ℕ) → a ≡ false → b ≡ false → d ≡ false → e ≡ false → f ≡ false
    → (if a then v else if b then w else if d then x else if e then y else if f then z else l) ≡ l
none_of_five a b d e f v w x y z l p q r s t = rw (p, q, r, s, t) refl

-- a text of characters that pass a test which the five fail
pub escape-plain : (p : ℕ → Bool) → p 38 ≡ false → p 39 ≡ false → p 34 ≡ false → p 62 ≡ false → p 60 ≡ false → (text : List ℕ) → IsTrue (list_all p text) → escape text ≡ text
escape-plain p a b d e f [] h = refl
escape-plain p a b d e f (c ∷ text) h =
    let is = first_so (p c) (list_all p text) h in
    ap (λ l. l ++ escape text) (none_of_five (c == 38) (c == 39) (c == 34) (c == 62) (c == 60) _ _ _ _ _ (c ∷ []) (unlike p 38 c a is) (unlike p 39 c b is) (unlike p 34 c d is) (unlike p 62 c e is) (unlike p 60 c f is))
    ∙ ap (λ l. c ∷ l) (escape-plain p a b d e f text (second_so (p c) (list_all p text) h))

same_head : (b : Bool) (c d : ℕ) → nat_eq c d ≡ b → IsTrue b → c ≡ d
same_head true c d e h = grind (arith, nat_tests)
same_head false c d e h = cc

-- a text whose front is a scheme of characters of a base, with characters of a base after it
scheme_and_rest : (scheme base : List ℕ) → IsTrue (pointwise nat_eq scheme (take (length scheme) base)) → IsTrue (list_all is_base_char scheme)
    → IsTrue (list_all is_base_char (drop (length scheme) base)) → IsTrue (list_all is_base_char base)
scheme_and_rest [] base h k l = l
scheme_and_rest (c ∷ scheme) [] h k l = refl
scheme_and_rest (c ∷ scheme) (d ∷ base) h k l =
    let same : c ≡ d = same_head (nat_eq c d) c d refl (first_so (nat_eq c d) _ h) in
    let P : ℕ → Type 0 = λ x. IsTrue (is_base_char x) in
    and_from (is_base_char d) _ (subst P same (first_so (is_base_char c) _ k))
    (scheme_and_rest scheme base (second_so (nat_eq c d) _ h) (second_so (is_base_char c) _ k) l)

with_scheme : (scheme base : List ℕ) → IsTrue (list_all is_base_char scheme) → IsTrue (has_scheme scheme base) → IsTrue (list_all is_base_char base)
with_scheme scheme base k h =
    let front = first_so _ (list_all is_base_char (drop (length scheme) base)) h in
    scheme_and_rest scheme base (first_so _ (nat_lt (length scheme) (length base)) front) k (second_so _ (list_all is_base_char (drop (length scheme) base)) h)

one_scheme : (a b : Bool) (base : List ℕ) → has_scheme (codes "http://") base ≡ a → has_scheme (codes "https://") base ≡ b → IsTrue (a || b) → IsTrue (list_all is_base_char base)
one_scheme true b base e f h = with_scheme (codes "http://") base refl e
one_scheme false true base e f h = with_scheme (codes "https://") base refl f
one_scheme false false base e f h = cc

base_characters : (base : List ℕ) → IsTrue (is_base base) → IsTrue (list_all is_base_char base)
base_characters base h =
    let a = first_so _ (not (ends_with nat_eq base (codes "/"))) h in
    one_scheme (has_scheme (codes "http://") base) (has_scheme (codes "https://") base) base refl refl
    (second_so _ (has_scheme (codes "http://") base || has_scheme (codes "https://") base) a)

pub escape-base : (base : List ℕ) → IsTrue (is_base base) → escape base ≡ base
escape-base base h = escape-plain is_base_char refl refl refl refl refl base (base_characters base h)

-- a URI, and the text after it
pub escape-uri : (base name rest : List ℕ) → IsTrue (is_base base) → escape (uri base name) ++ rest ≡ base ++ (codes "/resource/" ++ (escape name ++ rest))
escape-uri base name rest h =
    ap (λ l. l ++ rest) (flat_map-append escaped (base ++ codes "/resource/") name ∙ ap (λ l. l ++ escape name) (flat_map-append escaped base (codes "/resource/") ∙ ap (λ l. l ++ codes "/resource/") (escape-base base h)))
    ∙ append_assoc (base ++ codes "/resource/") (escape name) rest
    ∙ append_assoc base (codes "/resource/") (escape name ++ rest)
