-- The greatest lengths of documents.
use Rattle.std.proofs.Common.{◌≡◌, ℕ, ◌+◌, ◌*◌, ◌≤◌, ◌<◌, ◌^◌, List, [], ◌∷◌, ◌++◌, length, refl, sym, ap, length-append, arith, Option, Some, None}
use Rattle.std.specs.Prelude.{codes, Result, Ok, Err, OnOk, IfSome}
use Rattle.rs_time.specs.Moment.{moment_text}
use Rattle.rs_lists.specs.Lawful.{IsSmall}
use Rattle.std.specs.Option.{option_map}
use Rattle.rs_lists.specs.Sinks.{CountGrowsBy}
use Rattle.rs_lists.specs.Chunks.{part_at}
use Rattle.rs_lists.specs.Listed.{Listed, entries, whole_text, part_text, index_text}
use Rattle.rs_lists.specs.Shown.{Shown}
use Rattle.rs_lists.specs.Text.{line, joined, xml_line, open_line, close_line, link_line, up_line, part_links, document, resource_md, change_md, until_parts}
use Rattle.rs_lists.proofs.Bounds.{total_length, length-line}
use Rattle.rs_lists.proofs.Lengths.{length-moment_text}
use Rattle.rs_lists.proofs.Lines.{document_lines}

-- a document of short lines around its children
document_small : (tag : List ℕ) (links : List (List ℕ)) (md : List ℕ) (children : List (List ℕ)) → length tag ≤ 12 → length (joined links) ≤ 500 → length (line md) ≤ 160
    → length (joined children) ≤ 9800000 → IsSmall (document tag links md children)
unfolding total_length
document_small tag links md children t l m h =
    let front = xml_line ∷ open_line tag ∷ links in
    let whole = ap (λ x. length x) (sym (document_lines front children md (close_line tag))) in
    let a = length-append ((joined front ++ line md) ++ joined children) (line (close_line tag)) in
    let b = length-append (joined front ++ line md) (joined children) in
    let d = length-append (joined front) (line md) in
    let e = length-append (line xml_line) (line (open_line tag) ++ joined links) in
    let f = length-append (line (open_line tag)) (joined links) in
    let opening : length (line (open_line tag)) ≡ 1 + (length tag + (102 + 0)) + 1 = length-line (codes "<" ∷ tag ∷ codes " xmlns=\"http://www.sitemaps.org/schemas/sitemap/0.9\" xmlns:rs=\"http://www.openarchives.org/rs/terms/\">" ∷ []) in
    let closing : length (line (close_line tag)) ≡ 2 + (length tag + (1 + 0)) + 1 = length-line (codes "</" ∷ tag ∷ codes ">" ∷ []) in
    let first : length (line xml_line) ≡ 39 = refl in
    omega arith

link_length : (relation base path : List ℕ) → length (line (link_line relation base path)) ≡ 12 + (length relation + (8 + (length base + (length path + (3 + 0))))) + 1
unfolding total_length
link_length relation base path = length-line (codes "<rs:ln rel=\"" ∷ relation ∷ codes "\" href=\"" ∷ base ∷ path ∷ codes "\"/>" ∷ [])

up_small : (base : List ℕ) → length base ≤ 128 → length (joined (up_line base ∷ [])) ≤ 500
up_small base h =
    let a = length-append (line (up_line base)) [] in
    let b : length (line (up_line base)) ≡ 12 + (2 + (8 + (length base + (19 + (3 + 0))))) + 1 = link_length (codes "up") base (codes "/capabilitylist.xml") in
    let none : length (joined []) ≡ 0 = refl in
    omega arith

part_links_small : (s : Shown) (path : List ℕ) → length s.base ≤ 128 → length path ≤ 18 → length (joined (part_links s path)) ≤ 500
part_links_small s path h k =
    let a = length-append (line (up_line s.base)) (line (link_line (codes "index") s.base path) ++ []) in
    let b : length (line (up_line s.base)) ≡ 12 + (2 + (8 + (length s.base + (19 + (3 + 0))))) + 1 = link_length (codes "up") s.base (codes "/capabilitylist.xml") in
    let d = length-append (line (link_line (codes "index") s.base path)) [] in
    let e : length (line (link_line (codes "index") s.base path)) ≡ 12 + (5 + (8 + (length s.base + (length path + (3 + 0))))) + 1 = link_length (codes "index") s.base path in
    let none : length (joined []) ≡ 0 = refl in
    omega arith

pub resource_md_small : (at : ℕ) → length (line (resource_md at)) ≤ 160
unfolding total_length
resource_md_small at =
    let total : length (line (resource_md at)) ≡ 37 + (length (moment_text at) + (3 + 0)) + 1 = length-line (codes "<rs:md capability=\"resourcelist\" at=\"" ∷ moment_text at ∷ codes "\"/>" ∷ []) in
    let t = length-moment_text at in
    omega arith

until_small : (until : Option ℕ) → total_length (until_parts until ++ codes "/>" ∷ []) ≤ 40
unfolding total_length
until_small None = omega arith
until_small (Some t) = let e = length-moment_text t in let total : total_length (until_parts (Some t) ++ codes "/>" ∷ []) ≡ 8 + (length (moment_text t) + (1 + (2 + 0))) = refl in omega arith

pub change_md_small : (start : ℕ) (until : Option ℕ) → length (line (change_md start until)) ≤ 160
unfolding total_length
change_md_small start until =
    let total : length (line (change_md start until)) ≡ 37 + (length (moment_text start) + (1 + total_length (until_parts until ++ codes "/>" ∷ []))) + 1 =
    length-line (codes "<rs:md capability=\"changelist\" from=\"" ∷ moment_text start ∷ codes "\"" ∷ until_parts until ++ codes "/>" ∷ []) in
    let t = length-moment_text start in
    let u = until_small until in
    omega arith

-- a list of at most 4,000 items, and an index of at most 25,000 parts
pub whole_small : (l : Listed) (s : Shown) (n : ℕ) → length s.base ≤ 128 → length (line (l.bounds s)) ≤ 160 → length (joined (l.items s)) ≤ 2450 * n → n ≤ 4000 → IsSmall (whole_text l s)
whole_small l s n b m h few = document_small (codes "urlset") (up_line s.base ∷ []) (l.bounds s) (l.items s) (omega arith) (up_small s.base b) m (omega arith)

pub part_small : (l : Listed) (s : Shown) (k n : ℕ) → length s.base ≤ 128 → length l.path ≤ 18 → length (line (l.part_bounds s k)) ≤ 160 → length (joined (part_at k s.limit (l.items s))) ≤ 2450 * n → n ≤ 4000 → IsSmall (part_text l s k)
part_small l s k n b p m h few = document_small (codes "urlset") (part_links s l.path) (l.part_bounds s k) (part_at k s.limit (l.items s)) (omega arith) (part_links_small s l.path b p) m (omega arith)

pub index_small : (l : Listed) (s : Shown) (n : ℕ) → length s.base ≤ 128 → length (line (l.bounds s)) ≤ 160 → length (joined (entries l s)) ≤ 276 * n → n ≤ 25000 → IsSmall (index_text l s)
index_small l s n b m h few = document_small (codes "sitemapindex") (up_line s.base ∷ []) (l.bounds s) (entries l s) (omega arith) (up_small s.base b) m (omega arith)

-- a proved fact, as a clause on a successful call
pub on_value : {X E : Type 0} {P : Type 0} (r : Result X E) → P → OnOk r P
on_value (Ok v) p = p
on_value (Err v) p = tt

-- the bytes that a meter counted for a document
pub measured : (before after total : ℕ) (d : Option (List ℕ)) → before ≡ 0 → total ≡ after → ¬ (d ≡ None) → IfSome d (CountGrowsBy before after) → IfSome d IsSmall → Some total ≡ option_map (length {A = ℕ}) d
measured before after total None e f there counts small = absurd (there refl)
measured before after total (Some text) e f there counts small =
    let fits : before + length text < 2 ^ 64 = omega arith in
    let exact = counts.exact fits in
    ap Some (omega arith)
