-- The greatest lengths of lines and documents.
use Rattle.std.proofs.Common.{◌≡◌, ℕ, suc, ◌+◌, ◌-◌, ◌*◌, ◌≤◌, ◌<◌, ◌^◌, List, [], ◌∷◌, ◌++◌, Bool, true, false, nat_le, nat_eq, length, refl, sym, ap, ◌∙◌, append-nil, length-append, arith, Option, Some, None}
use Rattle.std.specs.Prelude.{codes, IsTrue, ◌==◌, ◌&&◌, ◌||◌, not, if◌then◌else◌}
use Rattle.std.specs.List.{concat, list_all, All, ends_with}
use Rattle.std.specs.Fmt.{decimal}
use Rattle.std.proofs.lemmas.Fmt.{length-decimal-le}
use Rattle.std.proofs.lemmas.List.Elements.{All-head, All-tail}
use Rattle.std.proofs.lemmas.Bool.Decides.{nat_tests}
use Rattle.rs_time.specs.Moment.{moment_text}
use Rattle.rs_fixity.specs.HashText.{hash_text_of}
use Rattle.rs_record.specs.Bytes.{is_between}
use Rattle.rs_record.specs.Name.{is_name, is_segment, segments}
use Rattle.rs_record.specs.MediaType.{is_media_type, begins_token, begins_subtype, after_token}
use Rattle.rs_record.specs.Base.{is_base, has_scheme, uri}
use Rattle.rs_record.specs.Format.{facts_in}
use Rattle.rs_record.specs.declared.facts.Facts.{Facts}
use Rattle.rs_record.specs.declared.record.Record.{Record}
use Rattle.rs_record.specs.declared.change.Change.{Change}
use Rattle.rs_record.specs.declared.change.What.{What}
use Rattle.rs_record.specs.declared.change.What.TheVariants.{Created, Updated, Deleted}
use Rattle.rs_lists.specs.Escape.{escape, escaped}
use Rattle.rs_lists.specs.Shown.{Shown}
use Rattle.rs_lists.specs.Text.{line, joined, resource_line, change_line, location_parts, lastmod_parts, some_facts_parts, facts_parts, what_text, resource_part_path, change_part_path, until_parts, until_of, from_of, resource_entry, change_entry}
use Rattle.rs_lists.proofs.Items.{change_line_with}
use Rattle.rs_lists.proofs.Lengths.{length-moment_text}
use Rattle.rs_lists.proofs.Plain.{escape-uri}
use Rattle.std.specs.Cmp.{first_so, second_so}

-- the length of texts joined
unfoldable pub total_length : List (List ℕ) → ℕ
total_length [] = 0
total_length (x ∷ xs) = length x + total_length xs

pub length-line : (pieces : List (List ℕ)) → length (line (concat pieces)) ≡ total_length pieces + 1
unfolding total_length
length-line pieces = length-append (concat pieces) (10 ∷ []) ∙ ap (λ n. n + 1) (length-concat pieces)
  where
    length-concat : (xs : List (List ℕ)) → length (concat xs) ≡ total_length xs
    length-concat [] = refl
    length-concat (x ∷ xs) = length-append x (concat xs) ∙ ap (λ n. length x + n) (length-concat xs)

-- a character is written with at most six bytes
reference_length : (a b d e f : Bool) (c : ℕ) → length (if a then codes "&amp;" else if b then codes "&apos;" else if d then codes "&quot;" else if e then codes "&gt;" else if f then codes "&lt;" else c ∷ []) ≤ 6
reference_length true b d e f c = omega arith
reference_length false true d e f c = omega arith
reference_length false false true e f c = omega arith
reference_length false false false true f c = omega arith
reference_length false false false false true c = omega arith
reference_length false false false false false c = omega arith

pub length-escape : (bytes : List ℕ) → length (escape bytes) ≤ 6 * length bytes
length-escape [] = omega arith
length-escape (c ∷ bytes) =
    let one : length (escaped c) ≤ 6 = reference_length (c == 38) (c == 39) (c == 34) (c == 62) (c == 60) c in
    let rest = length-escape bytes in
    let both = length-append (escaped c) (escape bytes) in
    omega arith

-- lawful texts are short
at_most : (a b : ℕ) → IsTrue (nat_le a b) → a ≤ b
at_most a b h = let e : nat_le a b ≡ true = h in grind (arith, nat_tests)

pub name_length : (name : List ℕ) → IsTrue (is_name name) → length name ≤ 240
name_length name h = at_most (length name) 240 (first_so (nat_le (length name) 240) (list_all is_segment (segments name)) h)

pub base_length : (base : List ℕ) → IsTrue (is_base base) → length base ≤ 128
base_length base h =
    at_most (length base) 128 (second_so (nat_le 8 (length base)) (nat_le (length base) 128)
    (first_so (nat_le 8 (length base) && nat_le (length base) 128) (has_scheme (codes "http://") base || has_scheme (codes "https://") base) (first_so _ (not (ends_with nat_eq base (codes "/"))) h)))

pub kind_length : (kind : List ℕ) → IsTrue (is_media_type kind) → length kind ≤ 100
kind_length kind h =
    let a = first_so _ (not (ends_with nat_eq kind (codes " "))) h in
    let b = first_so _ (begins_subtype (after_token kind)) a in
    let d = first_so _ (begins_token kind) b in
    let e = first_so (nat_le 3 (length kind) && nat_le (length kind) 100) (list_all (is_between 32 126) kind) d in
    at_most (length kind) 100 (second_so (nat_le 3 (length kind)) (nat_le (length kind) 100) e)

pub uri_length : (base name : List ℕ) → IsTrue (is_base base) → length (escape (uri base name)) ≡ length base + 10 + length (escape name)
uri_length base name h =
    let e = ap (λ l. length l) (sym (append-nil (escape (uri base name))) ∙ escape-uri base name [] h) in
    e ∙ length-append base (codes "/resource/" ++ (escape name ++ [])) ∙ ap (λ n. length base + n) (length-append (codes "/resource/") (escape name ++ []) ∙ ap (λ l. 10 + length l) (append-nil (escape name)))
    ∙ omega arith

-- a location with its references
pub location_small : (base name : List ℕ) → IsTrue (is_base base) → IsTrue (is_name name) → length (escape (uri base name)) < 2048
location_small base name h n =
    let u = uri_length base name h in
    let a = base_length base h in
    let b = name_length name n in
    let d = length-escape name in
    omega arith

pub resource_line_small : (base : List ℕ) (r : Record) → IsTrue (is_base base) → IsTrue (is_name r.name) → IsTrue (is_media_type r.kind) → r.length < 2 ^ 32 → length (hash_text_of r.digests) ≡ 109
    → length (line (resource_line base r)) ≤ 2450
unfolding total_length
resource_line_small base r h n k small hash =
    let total : length (line (resource_line base r)) ≡ 10 + (length (escape (uri base r.name)) + (6 + (9 + (length (moment_text r.moment) + (16 + (7 + (length (hash_text_of r.digests) + (10 + (length (decimal r.length) + (8 + (length (escape r.kind) + (1 + (8 + 0))))))))))))) + 1 =
    length-line (location_parts base r.name ++ (codes "<lastmod>" ∷ moment_text r.moment ∷ codes "</lastmod><rs:md" ∷ []) ++ facts_parts (facts_in r) ++ codes "/></url>" ∷ []) in
    let u = uri_length base r.name h in
    let a = base_length base h in
    let b = name_length r.name n in
    let d = length-escape r.name in
    let e = kind_length r.kind k in
    let g = length-escape r.kind in
    let t = length-moment_text r.moment in
    let digits = length-decimal-le 10 r.length (omega arith) (omega arith) (omega arith) in
    omega arith

word_length : (what : What) → length (what_text what) ≡ 7
word_length Created = refl
word_length Updated = refl
word_length Deleted = refl

pub bound_line_small : (base : List ℕ) (c : Change) (f : Facts) → c.facts ≡ Some f → IsTrue (is_base base) → IsTrue (is_name c.name) → IsTrue (is_media_type f.kind) → f.length < 2 ^ 32 → length (hash_text_of f.digests) ≡ 109
    → length (line (change_line base c)) ≤ 2450
unfolding total_length change_line_with
bound_line_small base c f is h n k small hash =
    let total : length (line (change_line_with base c (Some f))) ≡ 10 + (length (escape (uri base c.name)) + (6 + (9 + (length (moment_text c.moment) + (10 + (15 + (length (what_text c.what) + (12 + (length (moment_text c.moment) + (1 + (7 + (length (hash_text_of f.digests) + (10 + (length (decimal f.length) + (8 + (length (escape f.kind) + (1 + (8 + 0)))))))))))))))))) + 1 =
    length-line (location_parts base c.name ++ lastmod_parts (Some f) c.moment ++ (codes "<rs:md change=\"" ∷ what_text c.what ∷ codes "\" datetime=\"" ∷ moment_text c.moment ∷ codes "\"" ∷ []) ++ some_facts_parts (Some f) ++ codes "/></url>" ∷ []) in
    let same : length (line (change_line base c)) ≡ length (line (change_line_with base c (Some f))) = ap (λ x. length (line (change_line_with base c x))) is in
    let u = uri_length base c.name h in
    let a = base_length base h in
    let b = name_length c.name n in
    let d = length-escape c.name in
    let e = kind_length f.kind k in
    let g = length-escape f.kind in
    let t = length-moment_text c.moment in
    let w = word_length c.what in
    let digits = length-decimal-le 10 f.length (omega arith) (omega arith) (omega arith) in
    omega arith

pub unbound_line_small : (base : List ℕ) (c : Change) → c.facts ≡ None → IsTrue (is_base base) → IsTrue (is_name c.name) → length (line (change_line base c)) ≤ 2450
unfolding total_length change_line_with
unbound_line_small base c is h n =
    let total : length (line (change_line_with base c None)) ≡ 10 + (length (escape (uri base c.name)) + (6 + (15 + (length (what_text c.what) + (12 + (length (moment_text c.moment) + (1 + (8 + 0)))))))) + 1 =
    length-line (location_parts base c.name ++ lastmod_parts None c.moment ++ (codes "<rs:md change=\"" ∷ what_text c.what ∷ codes "\" datetime=\"" ∷ moment_text c.moment ∷ codes "\"" ∷ []) ++ some_facts_parts None ++ codes "/></url>" ∷ []) in
    let same : length (line (change_line base c)) ≡ length (line (change_line_with base c None)) = ap (λ x. length (line (change_line_with base c x))) is in
    let u = uri_length base c.name h in
    let a = base_length base h in
    let b = name_length c.name n in
    let d = length-escape c.name in
    let t = length-moment_text c.moment in
    let w = word_length c.what in
    omega arith

pub resource_entry_small : (s : Shown) (k : ℕ) → length s.base ≤ 128 → s.number < 2 ^ 64 → k < 2 ^ 64 → length (line (resource_entry s k)) ≤ 276
unfolding total_length
resource_entry_small s k a n m =
    let total : length (line (resource_entry s k)) ≡ 14 + (length (s.base ++ resource_part_path s.number k) + (17 + (length (moment_text s.at) + (13 + 0)))) + 1 =
    length-line (codes "<sitemap><loc>" ∷ (s.base ++ resource_part_path s.number k) ∷ codes "</loc><rs:md at=\"" ∷ moment_text s.at ∷ codes "\"/></sitemap>" ∷ []) in
    let path : length (s.base ++ resource_part_path s.number k) ≡ length s.base + (14 + length (decimal s.number) + 1 + length (decimal k) + 4) =
    length-append s.base (resource_part_path s.number k)
    ∙ ap (λ x. length s.base + x) (length-append (codes "/resourcelist/" ++ decimal s.number ++ codes "/" ++ decimal k) (codes ".xml")
    ∙ ap (λ x. x + 4) (length-append (codes "/resourcelist/" ++ decimal s.number ++ codes "/") (decimal k)
    ∙ ap (λ x. x + length (decimal k)) (length-append (codes "/resourcelist/" ++ decimal s.number) (codes "/") ∙ ap (λ x. x + 1) (length-append (codes "/resourcelist/") (decimal s.number))))) in
    let d = length-decimal-le 20 s.number (omega arith) (omega arith) n in
    let e = length-decimal-le 20 k (omega arith) (omega arith) m in
    let t = length-moment_text s.at in
    omega arith

until_length : (until : Option ℕ) → total_length (until_parts until ++ codes "/></sitemap>" ∷ []) ≤ 46
unfolding total_length
until_length None = omega arith
until_length (Some t) = let e = length-moment_text t in let total : total_length (until_parts (Some t) ++ codes "/></sitemap>" ∷ []) ≡ 8 + (length (moment_text t) + (1 + (12 + 0))) = refl in omega arith

pub change_entry_small : (s : Shown) (k : ℕ) → length s.base ≤ 128 → s.first + k < 2 ^ 64 → length (line (change_entry s k)) ≤ 276
unfolding total_length
change_entry_small s k a n =
    let total : length (line (change_entry s k)) ≡ 14 + (length (s.base ++ change_part_path (s.first + k)) + (19 + (length (moment_text (from_of s k)) + (1 + total_length (until_parts (until_of s k) ++ codes "/></sitemap>" ∷ []))))) + 1 =
    length-line (codes "<sitemap><loc>" ∷ (s.base ++ change_part_path (s.first + k)) ∷ codes "</loc><rs:md from=\"" ∷ moment_text (from_of s k) ∷ codes "\"" ∷ until_parts (until_of s k) ++ codes "/></sitemap>" ∷ []) in
    let path : length (s.base ++ change_part_path (s.first + k)) ≡ length s.base + (12 + length (decimal (s.first + k)) + 4) =
    length-append s.base (change_part_path (s.first + k))
    ∙ ap (λ x. length s.base + x) (length-append (codes "/changelist/" ++ decimal (s.first + k)) (codes ".xml") ∙ ap (λ x. x + 4) (length-append (codes "/changelist/") (decimal (s.first + k)))) in
    let d = length-decimal-le 20 (s.first + k) (omega arith) (omega arith) n in
    let t = length-moment_text (from_of s k) in
    let u = until_length (until_of s k) in
    omega arith

-- one more line
pub lines_small : (m n : ℕ) (before next after : List ℕ) → before ++ next ≡ after → length before ≤ m * n → length next ≤ m → length after ≤ m * (n + 1)
lines_small m n before next after e h k =
    let both = length-append before next in
    let same : length (before ++ next) ≡ length after = ap (λ l. length l) e in
    let d : m * (n + 1) ≡ m * n + m = grind arith in
    omega arith

-- a text of short lines
pub children_small : (m : ℕ) (xs : List (List ℕ)) → All (λ x. length (line x) ≤ m) xs → length (joined xs) ≤ m * length xs
children_small m [] h = omega arith
children_small m (x ∷ xs) h =
    let one : length (line x) ≤ m = All-head (λ x. length (line x) ≤ m) x xs h in
    let rest = children_small m xs (All-tail (λ x. length (line x) ≤ m) x xs h) in
    let both = length-append (line x) (joined xs) in
    let d : m * suc (length xs) ≡ m * length xs + m = grind arith in
    omega arith

-- the same for the items from one place up to another
pub items_small : (m from i : ℕ) (before next after : List ℕ) → from ≤ i → before ++ next ≡ after → length before ≤ m * (i - from) → length next ≤ m → length after ≤ m * (i + 1 - from)
items_small m from i before next after order e h k =
    let n : i + 1 - from ≡ i - from + 1 = omega arith in
    rw n (lines_small m (i - from) before next after e h k)
