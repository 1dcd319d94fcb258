-- The path of every document reads as that document, and no other path does.
use Rattle.std.proofs.Common.{◌≡◌, ℕ, ◌<◌, ◌^◌, List, [], ◌∷◌, ◌++◌, refl, sym, ap, ◌∙◌, arith, Option, Some, None, Bool, true, false, cond, nat_lt, append_assoc, subst}
use Rattle.std.specs.Prelude.{codes, ◌==◌}
use Rattle.std.specs.Fmt.{decimal}
use Rattle.std.proofs.lemmas.Bool.{ltb-true}
use Rattle.std.proofs.lemmas.Bool.Decides.{nat_tests}
use Rattle.rs_time.specs.ReadMoment.{same_bytes}
use Rattle.rs_caps.proofs.FromBelow.{then_some, then_gave, cut_value}
use Rattle.rs_lists.specs.declared.doc.Doc.{Doc}
use Rattle.rs_lists.specs.declared.doc.Doc.TheVariants.{Description, Capabilities, ResourceHead, ResourcePart, ChangeHead, ChangePart}
use Rattle.rs_lists.specs.Text.{resource_part_path, change_part_path}
use Rattle.rs_caps.specs.Cut.{◌>>=◌, ◌or_else◌, whole, is_empty, strip, with_first, cut, read_number}
use Rattle.rs_caps.specs.Paths.{path_of, HasCounts, if_path_of, read_count, last_part, resource_part, change_part, doc_of}
use Rattle.rs_caps.proofs.Steps.{let_through, either_gave, strip_gave, same_bytes-equal}
use Rattle.rs_caps.proofs.Numbers.{read_number-decimal, read_number-exact}
use Rattle.rs_caps.proofs.Clean.{number_lacks}

count_read : (n : ℕ) → n < 2 ^ 64 → read_count (decimal n) ≡ Some n
unfolding read_count
count_read n h =
    let low : nat_lt n (2 ^ 64) ≡ true = grind (arith, nat_tests) in
    then_some (read_number (decimal n)) (λ m. cond (nat_lt m (2 ^ 64)) (Some m) None) n (Some n) (read_number-decimal n h)
    (ap (λ b. cond b (Some n) None) low)

last_part_read : (part : ℕ → Doc) (k : ℕ) → k < 2 ^ 64 → last_part part (decimal k ++ codes ".xml") ≡ Some (part k)
unfolding last_part strip
last_part_read part k h =
    ap (λ (p : List ℕ × List ℕ). read_count p.0 >>= λ n. strip (codes ".xml") p.1 >>= λ rest. whole (part n) rest)
    (cut_value 46 (decimal k) (codes "xml") (number_lacks 46 k refl h))
    ∙ then_some (read_count (decimal k)) (λ n. Some (part n)) k (Some (part k)) (count_read k h) refl

-- the numbers of a path, and the text that joins them
apart : (p k : ℕ) → decimal p ++ codes "/" ++ decimal k ++ codes ".xml" ≡ decimal p ++ (codes "/" ++ (decimal k ++ codes ".xml"))
apart p k = append_assoc (decimal p ++ codes "/") (decimal k) (codes ".xml")
    ∙ append_assoc (decimal p) (codes "/") (decimal k ++ codes ".xml")

resource_part_read : (p k : ℕ) → p < 2 ^ 64 → k < 2 ^ 64 → resource_part (resource_part_path p k) ≡ Some (ResourcePart p k)
unfolding resource_part strip
resource_part_read p k h l =
    ap (λ text. read_count (cut 47 text).0 >>= λ n. strip (codes "/") (cut 47 text).1 >>= λ b. last_part (ResourcePart n) b) (apart p k)
    ∙ ap (λ (q : List ℕ × List ℕ). read_count q.0 >>= λ n. strip (codes "/") q.1 >>= λ b. last_part (ResourcePart n) b)
    (cut_value 47 (decimal p) (decimal k ++ codes ".xml") (number_lacks 47 p refl h))
    ∙ then_some (read_count (decimal p)) (λ n. last_part (ResourcePart n) (decimal k ++ codes ".xml")) p (Some (ResourcePart p k))
    (count_read p h) (last_part_read (ResourcePart p) k l)

-- the documents whose path has no number
abbrev heads : List ℕ → Option Doc
heads path =
    if_path_of ResourceHead path or_else if_path_of ChangeHead path or_else if_path_of Capabilities path or_else if_path_of Description path

pub doc_of-path_of : (doc : Doc) → HasCounts doc → doc_of (path_of doc) ≡ Some doc
unfolding doc_of resource_part change_part strip
doc_of-path_of Description h = refl
doc_of-path_of Capabilities h = refl
doc_of-path_of ResourceHead h = refl
doc_of-path_of (ResourcePart p k) h =
    let path : List ℕ = resource_part_path p k in
    ap (λ (o : Option Doc). o or_else change_part path or_else heads path) (resource_part_read p k h.0 h.1)
doc_of-path_of ChangeHead h = refl
doc_of-path_of (ChangePart k) h =
    ap (λ (o : Option Doc). o or_else heads (change_part_path k)) (last_part_read ChangePart k h)

-- and back
cut_more : (b : Bool) (c : ℕ) (text : List ℕ) (r : List ℕ × List ℕ) → r.0 ++ r.1 ≡ text
    → (cond b ([], c ∷ text) (with_first c r)).0 ++ (cond b ([], c ∷ text) (with_first c r)).1 ≡ c ∷ text
cut_more true c text r h = refl
cut_more false c text r h = ap (λ l. c ∷ l) h

cut_joined : (mark : ℕ) (text : List ℕ) → (cut mark text).0 ++ (cut mark text).1 ≡ text
unfolding cut
cut_joined mark [] = refl
cut_joined mark (c ∷ text) = cut_more (c == mark) c text (cut mark text) (cut_joined mark text)

-- a text that is cut into these two
cut_is : (mark : ℕ) (text front back : List ℕ) → (cut mark text).0 ≡ front → (cut mark text).1 ≡ back → text ≡ front ++ back
cut_is mark text front back p q = sym (cut_joined mark text) ∙ ap (λ l. l ++ (cut mark text).1) p ∙ ap (λ l. front ++ l) q

empty_is : (text : List ℕ) → is_empty text ≡ true → text ≡ []
empty_is [] h = refl
empty_is (c ∷ text) h = cc

count_exact : (text : List ℕ) (n : ℕ) → read_count text ≡ Some n → (text ≡ decimal n) × (n < 2 ^ 64)
unfolding read_count
count_exact text n h =
    let read = then_gave (read_number text) (λ m. cond (nat_lt m (2 ^ 64)) (Some m) None) n h in
    let small = let_through (nat_lt read.0 (2 ^ 64)) (Some read.0) n read.2 in
    let is : read.0 ≡ n = cc (small.1) in
    let low : read.0 < 2 ^ 64 = ltb-true read.0 (2 ^ 64) small.0 in
    (read_number-exact text read.0 low read.1 ∙ ap decimal is, omega arith)

-- a part of a number below 2^64
abbrev IsLastPart : (ℕ → Doc) → List ℕ → Doc → Type 0
IsLastPart part text d = (k : ℕ) × (k < 2 ^ 64) × (text ≡ decimal k ++ codes ".xml") × (part k ≡ d)

last_part_exact : (part : ℕ → Doc) (text : List ℕ) (d : Doc) → last_part part text ≡ Some d → IsLastPart part text d
unfolding last_part
last_part_exact part text d h =
    let count = then_gave (read_count (cut 46 text).0) (λ k. strip (codes ".xml") (cut 46 text).1 >>= λ rest. whole (part k) rest) d h in
    let end = then_gave (strip (codes ".xml") (cut 46 text).1) (λ rest. whole (part count.0) rest) d count.2 in
    let none = let_through (is_empty end.0) (Some (part count.0)) d end.2 in
    let number = count_exact (cut 46 text).0 count.0 count.1 in
    let back : (cut 46 text).1 ≡ codes ".xml" = strip_gave (codes ".xml") (cut 46 text).1 end.0 end.1
    ∙ ap (λ l. codes ".xml" ++ l) (empty_is end.0 none.0) in
    (count.0, number.1, cut_is 46 text (decimal count.0) (codes ".xml") number.0 back, cc (none.1))

-- the path of a document, whose numbers have 64 bits
abbrev IsPathOf : List ℕ → Doc → Type 0
IsPathOf path d = (path ≡ path_of d) × HasCounts d

is_path_of : (path : List ℕ) (doc d : Doc) → path ≡ path_of doc → HasCounts doc → doc ≡ d → IsPathOf path d
is_path_of path doc d e counts same = let P : Doc → Type 0 = IsPathOf path in subst P same (e, counts)

resource_path_is : (path a back b : List ℕ) (p k : ℕ) → path ≡ codes "/resourcelist/" ++ a → a ≡ decimal p ++ back → back ≡ codes "/" ++ b
    → b ≡ decimal k ++ codes ".xml" → path ≡ resource_part_path p k
resource_path_is path a back b p k e f g h =
    e ∙ ap (λ l. codes "/resourcelist/" ++ l) (f ∙ ap (λ l. decimal p ++ l) (g ∙ ap (λ l. codes "/" ++ l) h) ∙ sym (apart p k))

resource_part_exact : (path : List ℕ) (d : Doc) → resource_part path ≡ Some d → IsPathOf path d
unfolding resource_part
resource_part_exact path d h =
    let a = then_gave (strip (codes "/resourcelist/") path)
    (λ a. read_count (cut 47 a).0 >>= λ p. strip (codes "/") (cut 47 a).1 >>= λ b. last_part (ResourcePart p) b) d h in
    let p = then_gave (read_count (cut 47 a.0).0) (λ p. strip (codes "/") (cut 47 a.0).1 >>= λ b. last_part (ResourcePart p) b) d a.2 in
    let b = then_gave (strip (codes "/") (cut 47 a.0).1) (λ b. last_part (ResourcePart p.0) b) d p.2 in
    let k = last_part_exact (ResourcePart p.0) b.0 d b.2 in
    let number = count_exact (cut 47 a.0).0 p.0 p.1 in
    is_path_of path (ResourcePart p.0 k.0) d
    (resource_path_is path a.0 (cut 47 a.0).1 b.0 p.0 k.0 (strip_gave (codes "/resourcelist/") path a.0 a.1)
    (cut_is 47 a.0 (decimal p.0) (cut 47 a.0).1 number.0 refl)
    (strip_gave (codes "/") (cut 47 a.0).1 b.0 b.1) k.2)
    (number.1, k.1) k.3

change_part_exact : (path : List ℕ) (d : Doc) → change_part path ≡ Some d → IsPathOf path d
unfolding change_part
change_part_exact path d h =
    let a = then_gave (strip (codes "/changelist/") path) (λ a. last_part ChangePart a) d h in
    let k = last_part_exact ChangePart a.0 d a.2 in
    is_path_of path (ChangePart k.0) d (strip_gave (codes "/changelist/") path a.0 a.1 ∙ ap (λ l. codes "/changelist/" ++ l) k.2) k.1 k.3

own_exact : (doc : Doc) (path : List ℕ) (d : Doc) → HasCounts doc → if_path_of doc path ≡ Some d → IsPathOf path d
own_exact doc path d counts h =
    let both = let_through (same_bytes path (path_of doc)) (Some doc) d h in
    is_path_of path doc d (same_bytes-equal path (path_of doc) both.0) counts (cc (both.1))

pub doc_of-exact : (path : List ℕ) (doc : Doc) → doc_of path ≡ Some doc → (path ≡ path_of doc) × HasCounts doc
unfolding doc_of
doc_of-exact path d h =
    either_gave (IsPathOf path d) (resource_part path) _ d (resource_part_exact path d)
    (either_gave (IsPathOf path d) (change_part path) _ d (change_part_exact path d)
    (either_gave (IsPathOf path d) (if_path_of ResourceHead path) _ d (own_exact ResourceHead path d tt)
    (either_gave (IsPathOf path d) (if_path_of ChangeHead path) _ d (own_exact ChangeHead path d tt)
    (either_gave (IsPathOf path d) (if_path_of Capabilities path) _ d (own_exact Capabilities path d tt)
    (own_exact Description path d tt))))) h
