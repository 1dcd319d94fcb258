-- Texts of several lines.
use Rattle.std.proofs.Common.{◌≡◌, ℕ, suc, zero, ◌+◌, ◌-◌, ◌*◌, ◌≤◌, ◌<◌, List, [], ◌∷◌, ◌++◌, take, drop, length, get_or, refl, sym, ap, ◌∙◌, append_assoc, append-nil, arith, Bool, true, false, min, nat_le, length-drop}
use Rattle.std.specs.Prelude.{codes}
use Rattle.std.specs.Fmt.{decimal}
use Rattle.std.proofs.lemmas.Bool.Decides.{nat_tests}
use Rattle.std.proofs.lemmas.List.{take_all, take_more, take-take, take-append-drop, get_or-drop, get_or-map, length-map}
use Rattle.std.proofs.lemmas.Grind.{flat_map-append, common_steps}
use Rattle.rs_lists.specs.Chunks.{part_at}
use Rattle.rs_lists.specs.Listed.{Listed, item_at, item_lines, entries, parts_in, whole_text, index_text, part_text}
use Rattle.rs_lists.specs.Shown.{Shown}
use Rattle.rs_lists.specs.Text.{line, joined, xml_line, open_line, up_line, link_line, close_line, numbers_from, resource_part_path, change_part_path}

-- one line more
pub joined-next : (lines : List (List ℕ)) (l : List ℕ) → joined (lines ++ l ∷ []) ≡ joined lines ++ line l
joined-next lines l = flat_map-append line lines (l ∷ []) ∙ ap (λ t. joined lines ++ t) (append-nil (line l))

-- a document: its front, its `rs:md`, its children and its end
pub document_lines : (front children : List (List ℕ)) (md close : List ℕ) → ((joined front ++ line md) ++ joined children) ++ line close ≡ joined (front ++ md ∷ children ++ close ∷ [])
document_lines front children md close =
    ap (λ t. t ++ line close) (append_assoc (joined front) (line md) (joined children) ∙ sym (flat_map-append line front (md ∷ children)))
    ∙ sym (joined-next (front ++ md ∷ children) close)

-- the same, of lines that are known another way
same_document : (front front' children children' : List (List ℕ)) (md md' close : List ℕ) → front ≡ front' → md ≡ md' → children ≡ children'
    → ((joined front ++ line md) ++ joined children) ++ line close ≡ joined (front' ++ md' ∷ children' ++ close ∷ [])
same_document front front' children children' md md' close p q r =
    rw (p, q, r) (document_lines front' children' md' close)

-- the first lines of a document
pub opening_lines : (tag t base : List ℕ) → tag ≡ t → (line xml_line ++ line (open_line tag)) ++ line (up_line base) ≡ joined (xml_line ∷ open_line t ∷ up_line base ∷ [])
opening_lines tag t base e =
    rw e (append_assoc (line xml_line) (line (open_line t)) (line (up_line base)) ∙ ap (λ l. line xml_line ++ (line (open_line t) ++ l)) (sym (append-nil (line (up_line base)))))

-- the first lines, with the next one
lines_next : (xs : List (List ℕ)) (i : ℕ) → i < length xs → joined (take i xs) ++ line (get_or xs i []) ≡ joined (take (i + 1) xs)
lines_next xs i h = sym (ap joined (take_more xs i [] h) ∙ joined-next (take i xs) (get_or xs i []))

-- the first m lines begin the first n
lines_begin : (xs : List (List ℕ)) (m n : ℕ) → m ≤ n → joined (take m xs) ++ joined (drop m (take n xs)) ≡ joined (take n xs)
lines_begin xs m n h =
    sym (flat_map-append line (take m xs) (drop m (take n xs))) ∙ ap (λ l. joined (l ++ drop m (take n xs))) (sym (take-take m n xs h)) ∙ ap joined (take-append-drop m (take n xs))

-- the items from one place on, with the next one
pub items_next : (l : Listed) (s : Shown) (from i : ℕ) → from ≤ i → i < length (l.items s) → item_lines l s from i ++ line (item_at l s i) ≡ item_lines l s from (i + 1)
items_next l s from i low high =
    let within : i - from < length (drop from (l.items s)) = omega (arith, length-drop from (l.items s)) in
    let next : i + 1 - from ≡ i - from + 1 = omega arith in
    let place : from + (i - from) ≡ i = omega arith in
    let same : item_at l s i ≡ get_or (drop from (l.items s)) (i - from) [] = ap (λ j. get_or (l.items s) j []) (sym place) ∙ sym (get_or-drop from (l.items s) (i - from) []) in
    ap (λ x. item_lines l s from i ++ line x) same ∙ lines_next (drop from (l.items s)) (i - from) within ∙ ap (λ j. joined (take j (drop from (l.items s)))) (sym next)

-- and with those that follow
pub items_rest : (l : Listed) (s : Shown) (from i to : ℕ) → from ≤ i → i < to → to ≤ length (l.items s)
    → (item_lines l s from i ++ line (item_at l s i)) ++ joined (drop (i + 1 - from) (take (to - from) (drop from (l.items s)))) ≡ item_lines l s from to
items_rest l s from i to low below high =
    let rest = joined (drop (i + 1 - from) (take (to - from) (drop from (l.items s)))) in
    ap (λ x. x ++ rest) (items_next l s from i low (omega arith)) ∙ lines_begin (drop from (l.items s)) (i + 1 - from) (to - from) (omega arith)

part_range : {A : Type 0} (xs : List A) (limit from n : ℕ) (b : Bool) → n ≡ length xs → nat_le n (from + limit) ≡ b → take (min n (from + limit) - from) (drop from xs) ≡ take limit (drop from xs)
part_range xs limit from n true e h =
    let short : n ≤ from + limit = grind (arith, nat_tests) in
    let rest = length-drop from xs in
    let low : length (drop from xs) ≤ min n (from + limit) - from = omega arith in
    let high : length (drop from xs) ≤ limit = omega arith in
    take_all (min n (from + limit) - from) (drop from xs) low ∙ sym (take_all limit (drop from xs) high)
part_range xs limit from n false e h =
    let long : from + limit < n = grind (arith, nat_tests) in
    let same : min n (from + limit) - from ≡ limit = omega arith in
    ap (λ j. take j (drop from xs)) same

-- all items, as a range of places
pub all_items : {A : Type 0} (xs : List A) (n : ℕ) → n ≡ length xs → take (n - 0) (drop 0 xs) ≡ xs
all_items xs n e = grind (arith, common_steps)

part_items : {A : Type 0} (xs : List A) (limit from n : ℕ) → n ≡ length xs → take (min n (from + limit) - from) (drop from xs) ≡ take limit (drop from xs)
part_items xs limit from n e = part_range xs limit from n (nat_le n (from + limit)) e refl

-- the items of a part, as a range of places
pub part_is : {A : Type 0} (xs : List A) (part limit l n to : ℕ) → l ≡ limit → n ≡ length xs → to ≡ min n (part * l + l) → take (to - part * l) (drop (part * l) xs) ≡ part_at part limit xs
part_is xs part limit l n to p q r =
    ap (λ j. take (j - part * l) (drop (part * l) xs)) r ∙ part_items xs l (part * l) n q ∙ ap (λ j. take j (drop (part * j) xs)) p

-- numbers one after another
length-numbers_from : (first n : ℕ) → length (numbers_from first n) ≡ n
length-numbers_from first zero = refl
length-numbers_from first (suc n) = ap suc (length-numbers_from (first + 1) n)

get_or-numbers_from : (first n k : ℕ) → k < n → get_or (numbers_from first n) k 0 ≡ first + k
get_or-numbers_from first zero k h = absurd (omega arith)
get_or-numbers_from first (suc n) zero h = omega arith
get_or-numbers_from first (suc n) (suc k) h = omega (arith, get_or-numbers_from (first + 1) n k (omega arith))

-- the entries of parts
pub length-entries : (l : Listed) (s : Shown) → length (entries l s) ≡ parts_in l s
length-entries l s = length-map (numbers_from 0 (parts_in l s)) (l.entry s) ∙ length-numbers_from 0 (parts_in l s)

pub all_entries : (l : Listed) (s : Shown) (n : ℕ) → parts_in l s ≤ n → take n (entries l s) ≡ entries l s
all_entries l s n h = take_all n (entries l s) (omega (arith, length-entries l s))

pub entries_next : (l : Listed) (s : Shown) (k : ℕ) → k < parts_in l s → joined (take k (entries l s)) ++ line (l.entry s k) ≡ joined (take (k + 1) (entries l s))
entries_next l s k h =
    let numbers = numbers_from 0 (parts_in l s) in
    let within : k < length numbers = omega (arith, length-numbers_from 0 (parts_in l s)) in
    let inside : k < length (entries l s) = omega (arith, length-entries l s) in
    let at : get_or numbers k 0 ≡ k = omega (arith, get_or-numbers_from 0 (parts_in l s) k h) in
    ap (λ x. joined (take k (entries l s)) ++ line x) (sym (get_or-map (l.entry s) numbers k 0 [] within ∙ ap (l.entry s) at)) ∙ lines_next (entries l s) k inside

pub entries_rest : (l : Listed) (s : Shown) (k : ℕ) → k < parts_in l s → (joined (take k (entries l s)) ++ line (l.entry s k)) ++ joined (drop (k + 1) (entries l s)) ≡ joined (entries l s)
entries_rest l s k h =
    ap (λ x. x ++ joined (drop (k + 1) (entries l s))) (entries_next l s k h) ∙ sym (flat_map-append line (take (k + 1) (entries l s)) (drop (k + 1) (entries l s))) ∙ ap joined (take-append-drop (k + 1) (entries l s))

-- the documents of a list, of lines that are known another way
pub whole_lines : (l : Listed) (s : Shown) (b : List ℕ) (n : ℕ) → b ≡ s.base → n ≡ length (l.items s)
    → ((joined (xml_line ∷ open_line (codes "urlset") ∷ up_line b ∷ []) ++ line (l.bounds s)) ++ item_lines l s 0 n) ++ line (close_line (codes "urlset")) ≡ whole_text l s
whole_lines l s b n p q = same_document _ _ _ _ (l.bounds s) _ (close_line (codes "urlset")) (ap (λ (x : List ℕ). xml_line ∷ open_line (codes "urlset") ∷ up_line x ∷ []) p) refl (all_items (l.items s) n q)

pub index_lines : (l : Listed) (s : Shown) (b : List ℕ) → b ≡ s.base
    → ((joined (xml_line ∷ open_line (codes "sitemapindex") ∷ up_line b ∷ []) ++ line (l.bounds s)) ++ joined (entries l s)) ++ line (close_line (codes "sitemapindex")) ≡ index_text l s
index_lines l s b p = same_document _ _ (entries l s) _ (l.bounds s) _ (close_line (codes "sitemapindex")) (ap (λ (x : List ℕ). xml_line ∷ open_line (codes "sitemapindex") ∷ up_line x ∷ []) p) refl refl

pub part_lines : (l : Listed) (s : Shown) (k limit n to : ℕ) (b path : List ℕ) → b ≡ s.base → path ≡ l.path → limit ≡ s.limit → n ≡ length (l.items s) → to ≡ min n (k * limit + limit)
    → ((joined (xml_line ∷ open_line (codes "urlset") ∷ up_line b ∷ link_line (codes "index") b path ∷ []) ++ line (l.part_bounds s k)) ++ item_lines l s (k * limit) to) ++ line (close_line (codes "urlset")) ≡ part_text l s k
part_lines l s k limit n to b path p q u v w =
    same_document _ _ _ _ (l.part_bounds s k) _ (close_line (codes "urlset"))
    (ap (λ (x : List ℕ). xml_line ∷ open_line (codes "urlset") ∷ up_line x ∷ link_line (codes "index") x path ∷ []) p ∙ ap (λ (x : List ℕ). xml_line ∷ open_line (codes "urlset") ∷ up_line s.base ∷ link_line (codes "index") s.base x ∷ []) q) refl
    (part_is (l.items s) k s.limit limit n to u v w)

-- the paths of parts, piece by piece
pub resource_path_pieces : (base rest : List ℕ) (number k : ℕ)
    → base ++ (codes "/resourcelist/" ++ (decimal number ++ (codes "/" ++ (decimal k ++ (codes ".xml" ++ rest))))) ≡ (base ++ resource_part_path number k) ++ rest
resource_path_pieces base rest number k = simp append_assoc

pub change_path_pieces : (base rest : List ℕ) (number : ℕ)
    → base ++ (codes "/changelist/" ++ (decimal number ++ (codes ".xml" ++ rest))) ≡ (base ++ change_part_path number) ++ rest
change_path_pieces base rest number = simp append_assoc
