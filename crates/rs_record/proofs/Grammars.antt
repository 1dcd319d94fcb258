-- The tests of names and media types accept the texts of the grammars, and no other text.
use Rattle.std.proofs.Common.{◌≡◌, ◌≢◌, ◌⊎◌, inl, inr, ⊎_elim, ℕ, ◌-◌, ◌<◌, Bool, true, false, cond, List, [], ◌∷◌, ◌++◌, length, take, drop, nat_eq, nat_le, refl, sym, ap, subst, ◌∙◌, arith, true≢false}
use Rattle.std.specs.Prelude.{codes, IsTrue, ◌==◌, ◌&&◌, ◌||◌, ◌↔◌, not}
use Rattle.std.specs.List.{list_all, join_with_byte, All, ends_with}
use Rattle.std.specs.Cmp.Lexicographic.{pointwise}
use Rattle.std.proofs.lemmas.Bool.{and_parts, and_from, or_left, or_right, eqb-true}
use Rattle.std.proofs.lemmas.Bool.Decides.{nat_tests}
use Rattle.std.proofs.lemmas.List.{drop_at, take-append-drop, length-append}
use Rattle.std.proofs.lemmas.List.Elements.{All-nil, All-cons}
use Rattle.std.proofs.lemmas.List.Splits.{slice_split_none, slice_split_at, length-slice_split, join_with_byte-slice_split}
use Rattle.rs_record.specs.Bytes.{is_hex, is_between}
use Rattle.rs_record.specs.Name.{is_name, is_segment, segments, is_plain, two_hex, are_pchars, is_dots}
use Rattle.rs_record.specs.MediaType.{is_media_type, is_tchar, begins_token, begins_subtype, after_token}
use Rattle.rs_record.specs.Grammar.{ArePchars, IsSegment, IsPath, IsToken, IsTyped, IsNameText, IsMediaTypeText}
use Rattle.rs_record.specs.Grammar.ArePchars.{none, plain, encoded}
use Rattle.rs_record.specs.Grammar.IsPath.{one, more}

-- which of two tests passed
either : (a b : Bool) → IsTrue (a || b) → (a ≡ true) ⊎ (b ≡ true)
either true b h = inl refl
either false b h = inr h

-- a hexadecimal digit is plain
hex_plain : (c : ℕ) → IsTrue (is_hex c) → IsTrue (is_plain c)
hex_plain c h = grind (arith, nat_tests)

-- ---- names

-- the pchars of a text that passes the test
pchars_from : (bytes : List ℕ) → IsTrue (are_pchars bytes) → ArePchars bytes
pchars_from [] h = none
pchars_from (c ∷ []) h =
    let both = and_parts (is_plain c || ((c == 37) && false)) true h in
    ⊎_elim (λ p. plain p none) (λ e. absurd (true≢false (sym (and_parts (c == 37) false e).1))) (either (is_plain c) ((c == 37) && false) both.0)
pchars_from (c ∷ a ∷ []) h =
    let both = and_parts (is_plain c || ((c == 37) && false)) (are_pchars (a ∷ [])) h in
    ⊎_elim (λ p. plain p (pchars_from (a ∷ []) both.1)) (λ e. absurd (true≢false (sym (and_parts (c == 37) false e).1))) (either (is_plain c) ((c == 37) && false) both.0)
pchars_from (c ∷ a ∷ b ∷ rest) h =
    let both = and_parts (is_plain c || ((c == 37) && (is_hex a && is_hex b))) (are_pchars (a ∷ b ∷ rest)) h in
    let later = and_parts _ (are_pchars rest) (and_parts _ (are_pchars (b ∷ rest)) both.1).1 in
    ⊎_elim
    (λ p. plain p (pchars_from (a ∷ b ∷ rest) both.1))
    (λ e. let code = and_parts (c == 37) (is_hex a && is_hex b) e in
    let digits = and_parts (is_hex a) (is_hex b) code.1 in
    encoded (eqb-true c 37 code.0) digits.0 digits.1 (pchars_from rest later.1))
    (either (is_plain c) ((c == 37) && (is_hex a && is_hex b)) both.0)

percent_is : (c : ℕ) → c ≡ 37 → IsTrue (c == 37)
percent_is c e = ap (λ (n : ℕ). n == 37) e

pchars_pass : {bytes : List ℕ} → ArePchars bytes → IsTrue (are_pchars bytes)
pchars_pass none = refl
pchars_pass (plain {c} {rest} p r) = and_from (is_plain c || ((c == 37) && two_hex rest)) (are_pchars rest) (or_left (is_plain c) ((c == 37) && two_hex rest) p) (pchars_pass r)
pchars_pass (encoded {percent} {a} {b} {rest} e p q r) =
    and_from (is_plain percent || ((percent == 37) && (is_hex a && is_hex b))) (are_pchars (a ∷ b ∷ rest))
    (or_right (is_plain percent) ((percent == 37) && (is_hex a && is_hex b)) (and_from (percent == 37) (is_hex a && is_hex b) (percent_is percent e) (and_from (is_hex a) (is_hex b) p q)))
    (and_from (is_plain a || ((a == 37) && two_hex (b ∷ rest))) (are_pchars (b ∷ rest)) (or_left (is_plain a) ((a == 37) && two_hex (b ∷ rest)) (hex_plain a p))
    (and_from (is_plain b || ((b == 37) && two_hex rest)) (are_pchars rest) (or_left (is_plain b) ((b == 37) && two_hex rest) (hex_plain b q)) (pchars_pass r)))

-- no byte of a segment is a `/`
not_slash : (c : ℕ) (v : Bool) → (c == 47) ≡ v → IsTrue (is_plain c) → v ≡ false
not_slash c true e h = let same : c ≡ 47 = eqb-true c 47 e in absurd cc
not_slash c false e h = refl

percent_not_slash : (c : ℕ) → c ≡ 37 → (c == 47) ≡ false
percent_not_slash c e = ap (λ (n : ℕ). n == 47) e

no_slash : {bytes : List ℕ} → ArePchars bytes → All (λ (x : ℕ). (x == 47) ≡ false) bytes
no_slash none = All-nil (λ (x : ℕ). (x == 47) ≡ false)
no_slash (plain {c} {rest} p r) = All-cons (λ (x : ℕ). (x == 47) ≡ false) c rest (not_slash c _ refl p) (no_slash r)
no_slash (encoded {percent} {a} {b} {rest} e p q r) =
    All-cons (λ (x : ℕ). (x == 47) ≡ false) percent (a ∷ b ∷ rest) (percent_not_slash percent e)
    (All-cons (λ (x : ℕ). (x == 47) ≡ false) a (b ∷ rest) (not_slash a _ refl (hex_plain a p))
    (All-cons (λ (x : ℕ). (x == 47) ≡ false) b rest (not_slash b _ refl (hex_plain b q)) (no_slash r)))

segment_from : (bytes : List ℕ) → IsTrue (is_segment bytes) → IsSegment bytes
segment_from bytes h =
    let both = and_parts (are_pchars bytes) (not (is_dots bytes)) h in
    let other : (dots : List ℕ) → not (is_dots dots) ≡ false → bytes ≢ dots = λ dots are e. true≢false (sym both.1 ∙ ap (λ (l : List ℕ). not (is_dots l)) e ∙ are) in
    record { pchars = pchars_from bytes both.0; some = other [] refl; dot = other (codes ".") refl; dots = other (codes "..") refl }

one_dot : (x : ℕ) (v : Bool) → (x == 46) ≡ v → (x ∷ []) ≢ codes "." → not v ≡ true
one_dot x true e other = absurd (other (ap (λ (n : ℕ). n ∷ []) (eqb-true x 46 e)))
one_dot x false e other = refl

two_dots : (x y : ℕ) (v w : Bool) → (x == 46) ≡ v → (y == 46) ≡ w → (x ∷ y ∷ []) ≢ codes ".." → not (v && w) ≡ true
two_dots x y true true e f other = absurd (other (ap (λ (n : ℕ). n ∷ y ∷ []) (eqb-true x 46 e) ∙ ap (λ (n : ℕ). 46 ∷ n ∷ []) (eqb-true y 46 f)))
two_dots x y true false e f other = refl
two_dots x y false w e f other = refl

no_dots : (bytes : List ℕ) → bytes ≢ [] → bytes ≢ codes "." → bytes ≢ codes ".." → IsTrue (not (is_dots bytes))
no_dots [] some dot dots = absurd (some refl)
no_dots (x ∷ []) some dot dots = one_dot x _ refl dot
no_dots (x ∷ y ∷ []) some dot dots = two_dots x y _ _ refl refl dots
no_dots (x ∷ y ∷ z ∷ rest) some dot dots = refl

segment_passes : (bytes : List ℕ) → IsSegment bytes → IsTrue (is_segment bytes)
segment_passes bytes s = and_from (are_pchars bytes) (not (is_dots bytes)) (pchars_pass s.pchars) (no_dots bytes s.some s.dot s.dots)

parts_from : (parts : List (List ℕ)) → 0 < length parts → IsTrue (list_all is_segment parts) → IsPath (join_with_byte 47 parts)
parts_from [] some h = absurd (omega arith)
parts_from (part ∷ []) some h = one (segment_from part (and_parts (is_segment part) true h).0)
parts_from (part ∷ next ∷ parts) some h =
    let both = and_parts (is_segment part) (list_all is_segment (next ∷ parts)) h in
    more refl (segment_from part both.0) (parts_from (next ∷ parts) (omega arith) both.1)

path_from : (bytes : List ℕ) → IsTrue (list_all is_segment (segments bytes)) → IsPath bytes
path_from bytes h = subst IsPath (join_with_byte-slice_split 47 bytes) (parts_from (segments bytes) (omega (arith, length-slice_split (λ (c : ℕ). c == 47) bytes)) h)

path_passes : {bytes : List ℕ} → IsPath bytes → IsTrue (list_all is_segment (segments bytes))
path_passes (one {text} s) =
    ap (list_all is_segment) (slice_split_none (λ (c : ℕ). c == 47) text (no_slash s.pchars)) ∙ and_from (is_segment text) true (segment_passes text s) refl
path_passes (more {text} {first} {rest} e s p) =
    ap (λ (l : List ℕ). list_all is_segment (segments l)) e
    ∙ ap (list_all is_segment) (slice_split_at (λ (c : ℕ). c == 47) first 47 rest (no_slash s.pchars) refl)
    ∙ and_from (is_segment first) (list_all is_segment (segments rest)) (segment_passes first s) (path_passes p)

-- ---- media types

-- the bytes of a token at the front, and the bytes after them
front_from : (bytes : List ℕ) → (front : List ℕ) × IsTrue (list_all is_tchar front) × (bytes ≡ front ++ after_token bytes)
front_from [] = ([], refl, refl)
front_from (c ∷ rest) = one_more_token c rest (is_tchar c) refl (front_from rest)
  where
    one_more_token : (c : ℕ) (rest : List ℕ) (v : Bool) → is_tchar c ≡ v → (front : List ℕ) × IsTrue (list_all is_tchar front) × (rest ≡ front ++ after_token rest)
        → (front : List ℕ) × IsTrue (list_all is_tchar front) × ((c ∷ rest) ≡ front ++ cond v (after_token rest) (c ∷ rest))
    one_more_token c rest true e later = (c ∷ later.0, and_from (is_tchar c) (list_all is_tchar later.0) e later.1, ap (λ (l : List ℕ). c ∷ l) later.2)
    one_more_token c rest false e later = ([], refl, refl)

subtype_from : (bytes kind rest : List ℕ) → IsToken kind → bytes ≡ kind ++ rest → IsTrue (begins_subtype rest) → IsTyped bytes
subtype_from bytes kind [] token e h = absurd cc
subtype_from bytes kind (slash ∷ []) token e h = absurd (true≢false (sym (and_parts (slash == 47) false h).1))
subtype_from bytes kind (slash ∷ c ∷ rest) token e h =
    let both = and_parts (slash == 47) (is_tchar c) h in
    record {
      kind = kind;
      subtype = c ∷ [];
      rest = rest;
      parts = e ∙ ap (λ (n : ℕ). kind ++ (n ∷ c ∷ rest)) (eqb-true slash 47 both.0);
      kind_token = token;
      subtype_token = record { some = λ nil. cc; chars = and_from (is_tchar c) true both.1 refl };
    }

typed_from : (bytes : List ℕ) → IsTrue (begins_token bytes) → IsTrue (begins_subtype (after_token bytes)) → IsTyped bytes
typed_from [] h k = absurd cc
typed_from (c ∷ rest) h k =
    let later = front_from rest in
    let left : after_token (c ∷ rest) ≡ after_token rest = ap (λ (v : Bool). cond v (after_token rest) (c ∷ rest)) h in
    let token : IsToken (c ∷ later.0) = record { some = λ nil. cc; chars = and_from (is_tchar c) (list_all is_tchar later.0) h later.1 } in
    subtype_from (c ∷ rest) (c ∷ later.0) (after_token rest) token (ap (λ (l : List ℕ). c ∷ l) later.2) (subst (λ (l : List ℕ). IsTrue (begins_subtype l)) left k)

token_passed : (kind rest : List ℕ) → IsTrue (list_all is_tchar kind) → after_token (kind ++ (47 ∷ rest)) ≡ 47 ∷ rest
token_passed [] rest h = refl
token_passed (c ∷ kind) rest h =
    let both = and_parts (is_tchar c) (list_all is_tchar kind) h in
    ap (λ (v : Bool). cond v (after_token (kind ++ (47 ∷ rest))) (c ∷ (kind ++ (47 ∷ rest)))) both.0 ∙ token_passed kind rest both.1

token_begins : (token rest : List ℕ) → IsToken token → IsTrue (begins_token (token ++ rest))
token_begins [] rest is = absurd (is.some refl)
token_begins (c ∷ token) rest is = (and_parts (is_tchar c) (list_all is_tchar token) is.chars).0

typed_passes : (bytes : List ℕ) → IsTyped bytes → IsTrue (begins_token bytes) × IsTrue (begins_subtype (after_token bytes))
typed_passes bytes is =
    let after = 47 ∷ (is.subtype ++ is.rest) in (
      ap begins_token is.parts ∙ token_begins is.kind after is.kind_token,
      ap (λ (l : List ℕ). begins_subtype (after_token l)) is.parts ∙ ap begins_subtype (token_passed is.kind (is.subtype ++ is.rest) is.kind_token.chars) ∙ token_begins is.subtype is.rest is.subtype_token,
    )

-- the last byte is a space exactly if the text is some front and a space
one_space : (bytes : List ℕ) → IsTrue (pointwise nat_eq (codes " ") bytes) → bytes ≡ codes " "
one_space [] h = absurd cc
one_space (c ∷ []) h = ap (λ (n : ℕ). n ∷ []) (sym (eqb-true 32 c (and_parts (nat_eq 32 c) true h).0))
one_space (c ∷ d ∷ rest) h = absurd (true≢false (sym (and_parts (nat_eq 32 c) false h).1))

space_last : (front : List ℕ) → ends_with nat_eq (front ++ codes " ") (codes " ") ≡ true
space_last front =
    let short : length (front ++ codes " ") - 1 ≡ length front = omega (arith, length-append front (codes " ")) in
    ap (λ (n : ℕ). pointwise nat_eq (codes " ") (drop n (front ++ codes " "))) short ∙ ap (pointwise nat_eq (codes " ")) (drop_at front (codes " ") (length front) refl)

no_space_from : (bytes : List ℕ) → IsTrue (not (ends_with nat_eq bytes (codes " "))) → (front : List ℕ) → bytes ≢ front ++ codes " "
no_space_from bytes h front e = true≢false (sym h ∙ ap (λ (l : List ℕ). not (ends_with nat_eq l (codes " "))) e ∙ ap not (space_last front))

no_space_passes : (bytes : List ℕ) (v : Bool) → ends_with nat_eq bytes (codes " ") ≡ v → ((front : List ℕ) → bytes ≢ front ++ codes " ") → not v ≡ true
no_space_passes bytes true e other =
    let n = length bytes - 1 in
    absurd (other (take n bytes) (sym (take-append-drop n bytes) ∙ ap (λ (l : List ℕ). take n bytes ++ l) (one_space (drop n bytes) e)))
no_space_passes bytes false e other = refl

-- ---- whole values

pub name_grammar : (name : List ℕ) → IsTrue (is_name name) ↔ IsNameText name
name_grammar name = (from, passes)
  where
    from : IsTrue (is_name name) → IsNameText name
    from h =
        let both = and_parts (nat_le (length name) 240) (list_all is_segment (segments name)) h in
        record { most = grind (arith, nat_tests, both.0); path = path_from name both.1 }

    passes : IsNameText name → IsTrue (is_name name)
    passes is =
        let most : IsTrue (nat_le (length name) 240) = grind (arith, nat_tests, is.most) in
        and_from (nat_le (length name) 240) (list_all is_segment (segments name)) most (path_passes is.path)

pub media_type_grammar : (kind : List ℕ) → IsTrue (is_media_type kind) ↔ IsMediaTypeText kind
media_type_grammar kind = (from, passes)
  where
    from : IsTrue (is_media_type kind) → IsMediaTypeText kind
    from h =
        let a = and_parts _ (not (ends_with nat_eq kind (codes " "))) h in
        let b = and_parts _ (begins_subtype (after_token kind)) a.0 in
        let d = and_parts _ (begins_token kind) b.0 in
        let e = and_parts _ (list_all (is_between 32 126) kind) d.0 in
        let f = and_parts (nat_le 3 (length kind)) (nat_le (length kind) 100) e.0 in
        record {
          least = grind (arith, nat_tests, f.0);
          most = grind (arith, nat_tests, f.1);
          printable = e.1;
          typed = typed_from kind d.1 b.1;
          last = no_space_from kind a.1;
        }

    passes : IsMediaTypeText kind → IsTrue (is_media_type kind)
    passes is =
        let least : IsTrue (nat_le 3 (length kind)) = grind (arith, nat_tests, is.least) in
        let most : IsTrue (nat_le (length kind) 100) = grind (arith, nat_tests, is.most) in
        let typed = typed_passes kind is.typed in
        and_from _ _ (and_from _ _ (and_from _ _ (and_from _ _ (and_from _ _ least most) is.printable) typed.0) typed.1)
        (no_space_passes kind _ refl is.last)
