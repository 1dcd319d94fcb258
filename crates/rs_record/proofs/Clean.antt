-- Lawful values have no line feed; names and bases have no `"` and no `<` either.
use Rattle.std.proofs.Common.{◌≡◌, ℕ, List, [], ◌∷◌, length, take, drop, refl, subst, Bool, true, false, cond, nat_eq, nat_le, nat_lt}
use Rattle.std.specs.Prelude.{codes, IsTrue, ◌==◌, ◌&&◌, ◌||◌, not}
use Rattle.std.specs.List.{list_all, onto_first}
use Rattle.std.specs.Cmp.Lexicographic.{pointwise}
use Rattle.std.proofs.lemmas.Bool.{and_parts, and_from, eqb-true}
use Rattle.rs_record.specs.Bytes.{is_between}
use Rattle.rs_record.specs.Name.{is_name, is_segment, segments, is_plain, two_hex, are_pchars, is_dots}
use Rattle.rs_record.specs.MediaType.{is_media_type, begins_token, begins_subtype, after_token}
use Rattle.rs_record.specs.Base.{is_base, is_base_char, has_scheme}
use Rattle.rs_record.specs.CleanBytes.{lacks, is_clean, clean}

-- a byte with a property that the mark has not is another byte
unlike : (p : ℕ → Bool) (mark c : ℕ) (b : Bool) → (c == mark) ≡ b → p mark ≡ false → IsTrue (p c) → IsTrue (not b)
unlike p mark c true e h k = let same : c ≡ mark = eqb-true c mark e in absurd cc
unlike p mark c false e h k = refl

clean_byte : (p : ℕ → Bool) (c : ℕ) → p 10 ≡ false → p 34 ≡ false → p 60 ≡ false → IsTrue (p c) → IsTrue (is_clean c)
clean_byte p c a b d h =
    and_from _ _ (and_from _ _ (unlike p 10 c _ refl a h) (unlike p 34 c _ refl b h)) (unlike p 60 c _ refl d h)

-- ---- names

pchars_clean : (bytes : List ℕ) → IsTrue (are_pchars bytes) → IsTrue (clean bytes)
pchars_clean [] h = refl
pchars_clean (c ∷ rest) h =
    let both = and_parts (is_plain c || ((c == 37) && two_hex rest)) (are_pchars rest) h in
    and_from (is_clean c) (clean rest) (clean_byte (λ x. is_plain x || ((x == 37) && two_hex rest)) c refl refl refl both.0) (pchars_clean rest both.1)

all_clean : (parts : List (List ℕ)) → IsTrue (list_all is_segment parts) → IsTrue (list_all clean parts)
all_clean [] h = refl
all_clean (part ∷ parts) h =
    let both = and_parts (is_segment part) (list_all is_segment parts) h in
    and_from (clean part) (list_all clean parts) (pchars_clean part (and_parts (are_pchars part) (not (is_dots part)) both.0).0) (all_clean parts both.1)

first_clean : (c : ℕ) (parts : List (List ℕ)) → IsTrue (list_all clean (onto_first c parts)) → IsTrue (is_clean c && list_all clean parts)
first_clean c [] h = (and_parts (is_clean c && true) true h).0
first_clean c (part ∷ parts) h =
    let both = and_parts (clean (c ∷ part)) (list_all clean parts) h in
    let front = and_parts (is_clean c) (clean part) both.0 in
    and_from (is_clean c) (clean part && list_all clean parts) front.0 (and_from (clean part) (list_all clean parts) front.1 both.1)

-- the byte at which a text is cut is clean, and every other byte is in a part
cut_clean : (b : Bool) (c : ℕ) (rest : List ℕ) → (c == 47) ≡ b → IsTrue (list_all clean (cond b ([] ∷ segments rest) (onto_first c (segments rest)))) → IsTrue (is_clean c && list_all clean (segments rest))
cut_clean true c rest e h =
    and_from (is_clean c) (list_all clean (segments rest)) (clean_byte (λ x. x == 47) c refl refl refl e) h
cut_clean false c rest e h = first_clean c (segments rest) h

joined_clean : (bytes : List ℕ) → IsTrue (list_all clean (segments bytes)) → IsTrue (clean bytes)
joined_clean [] h = refl
joined_clean (c ∷ rest) h =
    let both = and_parts (is_clean c) (list_all clean (segments rest)) (cut_clean (c == 47) c rest refl h) in
    and_from (is_clean c) (clean rest) both.0 (joined_clean rest both.1)

pub name_clean : (name : List ℕ) → IsTrue (is_name name) → IsTrue (clean name)
name_clean name h = joined_clean name (all_clean (segments name) (and_parts (nat_le (length name) 240) (list_all is_segment (segments name)) h).1)

-- ---- bases

base_chars_clean : (bytes : List ℕ) → IsTrue (list_all is_base_char bytes) → IsTrue (clean bytes)
base_chars_clean [] h = refl
base_chars_clean (c ∷ rest) h =
    let both = and_parts (is_base_char c) (list_all is_base_char rest) h in
    and_from (is_clean c) (clean rest) (clean_byte is_base_char c refl refl refl both.0) (base_chars_clean rest both.1)

after_scheme : (scheme base : List ℕ) → IsTrue (pointwise nat_eq scheme (take (length scheme) base)) → IsTrue (clean scheme) → IsTrue (clean (drop (length scheme) base)) → IsTrue (clean base)
after_scheme [] base h k l = l
after_scheme (c ∷ scheme) [] h k l = refl
after_scheme (c ∷ scheme) (d ∷ base) h k l =
    let heads = and_parts (nat_eq c d) (pointwise nat_eq scheme (take (length scheme) base)) h in
    let front = and_parts (is_clean c) (clean scheme) k in
    let P : ℕ → Type 0 = λ x. IsTrue (is_clean x) in
    and_from (is_clean d) (clean base) (subst P (eqb-true c d heads.0) front.0) (after_scheme scheme base heads.1 front.1 l)

with_scheme : (scheme base : List ℕ) → IsTrue (clean scheme) → IsTrue (has_scheme scheme base) → IsTrue (clean base)
with_scheme scheme base k h =
    let both = and_parts _ (list_all is_base_char (drop (length scheme) base)) h in
    after_scheme scheme base (and_parts _ (nat_lt (length scheme) (length base)) both.0).0 k (base_chars_clean (drop (length scheme) base) both.1)

either_scheme : (a b : Bool) (base : List ℕ) → has_scheme (codes "http://") base ≡ a → has_scheme (codes "https://") base ≡ b → IsTrue (a || b) → IsTrue (clean base)
either_scheme true b base e f h = with_scheme (codes "http://") base refl e
either_scheme false true base e f h = with_scheme (codes "https://") base refl f
either_scheme false false base e f h = absurd cc

pub base_clean : (base : List ℕ) → IsTrue (is_base base) → IsTrue (clean base)
base_clean base h =
    let front = (and_parts _ _ h).0 in
    either_scheme _ _ base refl refl (and_parts _ (has_scheme (codes "http://") base || has_scheme (codes "https://") base) front).1

-- ---- media types

printable_lacks : (bytes : List ℕ) → IsTrue (list_all (is_between 32 126) bytes) → IsTrue (lacks 10 bytes)
printable_lacks [] h = refl
printable_lacks (c ∷ rest) h =
    let both = and_parts (is_between 32 126 c) (list_all (is_between 32 126) rest) h in
    and_from (not (c == 10)) (lacks 10 rest) (unlike (is_between 32 126) 10 c _ refl refl both.0) (printable_lacks rest both.1)

pub media_type_lacks : (kind : List ℕ) → IsTrue (is_media_type kind) → IsTrue (lacks 10 kind)
media_type_lacks kind h =
    let first = (and_parts _ _ h).0 in
    let second = (and_parts _ (begins_subtype (after_token kind)) first).0 in
    let third = (and_parts _ (begins_token kind) second).0 in
    printable_lacks kind (and_parts _ (list_all (is_between 32 126) kind) third).1
