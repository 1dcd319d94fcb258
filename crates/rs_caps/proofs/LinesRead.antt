-- Every line of a list or an index reads as the value from which it was written.
use Rattle.std.proofs.Common.{◌≡◌, ℕ, ◌+◌, ◌<◌, ◌≤◌, ◌^◌, List, [], ◌∷◌, ◌++◌, refl, ap, ◌∙◌, arith, Option, Some, None, Bool, true, false, cond, sym, append_assoc, length, length-append}
use Rattle.std.specs.Prelude.{nat_eq, codes, IsTrue, IfSome, ◌==◌, ◌&&◌}
use Rattle.std.specs.List.{concat}
use Rattle.std.specs.Fmt.{decimal}
use Rattle.std.proofs.lemmas.Bool.Decides.{nat_tests}
use Rattle.std.proofs.Math.Bool.{and-false}
use Rattle.rs_time.specs.Moment.{IsMoment, moment_text}
use Rattle.rs_time.specs.ReadMoment.{read_moment, same_bytes}
use Rattle.rs_caps.proofs.FromBelow.{read_moment-text, then_some, strip_own, read_hash-text, base_clean}
use Rattle.rs_fixity.specs.HashText.{hash_text_of}
use Rattle.rs_fixity.specs.ReadHash.{read_hash}
use Rattle.rs_record.specs.Base.{is_base, uri}
use Rattle.rs_record.specs.Name.{is_name}
use Rattle.rs_record.specs.Changes.{binding, bound, deleted}
use Rattle.rs_record.specs.Format.{facts_in}
use Rattle.rs_record.specs.declared.facts.Facts.{Facts}
use Rattle.rs_record.specs.declared.record.Record.{Record}
use Rattle.rs_record.specs.declared.change.Change.{Change}
use Rattle.rs_record.specs.CleanBytes.{is_clean}
use Rattle.rs_lists.specs.declared.doc.Doc.{Doc}
use Rattle.rs_lists.specs.declared.doc.Doc.TheVariants.{ResourcePart, ChangePart}
use Rattle.rs_lists.specs.Escape.{escape}
use Rattle.rs_lists.specs.Shown.{Shown}
use Rattle.rs_lists.specs.Text.{up_line, what_text, resource_line, change_line, resource_md, change_md, resource_entry, change_entry, from_of, until_of, until_parts}
use Rattle.rs_caps.specs.Cut.{◌>>=◌, ◌or_else◌, whole, strip, unescape, value_to, read_number}
use Rattle.rs_caps.specs.Paths.{doc_of, path_of, HasCounts}
use Rattle.rs_caps.specs.ReadLines.{read_name, read_facts, read_resource, change_word, read_bound, read_deleted, read_change, read_path, if_known, read_resource_entry, read_change_entry, read_end, read_until, before_end, read_base, read_up, read_resource_md, read_change_md}
use Rattle.rs_caps.specs.Answer.{listed_of, resource_entry_of, change_entry_of}
use Rattle.rs_model.specs.Lawful.{AreFacts, IsChange}
use Rattle.rs_caps.proofs.Steps.{value_own, same_bytes-itself}
use Rattle.rs_caps.proofs.Escaping.{unescape-escape}
use Rattle.rs_caps.proofs.Numbers.{read_number-decimal}
use Rattle.rs_caps.proofs.Clean.{IsClean, lacks_mark, joined_pass, number_clean, moment_clean, hash_clean, uri_clean, kind_clean, resource_part_path_clean, change_part_path_clean}
use Rattle.rs_caps.proofs.PathsRead.{doc_of-path_of}
use Rattle.rs_caps.proofs.ChangeKinds.{by_kind}

-- a clean value before its mark is read: names and moments in content, and values of attributes
clean_own : {A : Type 0} (mark : ℕ) → is_clean mark ≡ false → (read : List ℕ → Option A) (value rest : List ℕ) (x : A)
    → IsClean value → read value ≡ Some x
    → value_to mark read (value ++ mark ∷ rest) ≡ Some (x, mark ∷ rest)
clean_own mark e read value rest x h r = value_own mark read value rest x r (lacks_mark mark e value h)

moment_own : (mark : ℕ) → is_clean mark ≡ false → (t : ℕ) (rest : List ℕ) → IsMoment t
    → value_to mark read_moment (moment_text t ++ mark ∷ rest) ≡ Some (t, mark ∷ rest)
moment_own mark e t rest h = clean_own mark e read_moment (moment_text t) rest t (moment_clean t) (read_moment-text t h)

name_own : (base name rest : List ℕ) → IsTrue (is_base base) → IsTrue (is_name name)
    → value_to 60 (read_name base) (escape (uri base name) ++ 60 ∷ rest) ≡ Some (name, 60 ∷ rest)
name_own base name rest b n =
    clean_own 60 refl (read_name base) (escape (uri base name)) rest name (uri_clean base name b n)
    (then_some (unescape (escape (uri base name))) (λ u. strip (base ++ codes "/resource/") u) (uri base name) (Some name)
    (unescape-escape (uri base name)) (strip_own (base ++ codes "/resource/") name))

-- the attributes of a body
facts_read : (f : Facts) (rest : List ℕ) → AreFacts f
    → read_facts (codes " hash=\"" ++
    (hash_text_of f.digests ++ (codes "\" length=\"" ++
    (decimal f.length ++ (codes "\" type=\"" ++ (escape f.kind ++ (codes "\"" ++ rest))))))) ≡ Some (f, rest)
unfolding read_facts strip
facts_read f rest h =
    let few : f.length < 2 ^ 32 = h.length in
    then_some _ _ _ _ (clean_own 34 refl read_hash (hash_text_of f.digests) _ f.digests (hash_clean f.digests)
    (read_hash-text f.digests h.md5 h.sha256))
    (then_some _ _ _ _ (clean_own 34 refl read_number (decimal f.length) _ f.length (number_clean f.length (omega arith))
    (read_number-decimal f.length (omega arith)))
    (then_some _ _ _ _ (clean_own 34 refl unescape (escape f.kind) _ f.kind (kind_clean f.kind h.kind) (unescape-escape f.kind)) refl))

-- a resource
pub resource_line_read : (base : List ℕ) (r : Record) → IsTrue (is_base base) → IsTrue (is_name r.name)
    → AreFacts (facts_in r) → IsMoment r.moment
    → read_resource base (resource_line base r) ≡ Some (listed_of r)
unfolding read_resource strip
resource_line_read base r b n f m =
    then_some _ _ _ _ (name_own base r.name _ b n)
    (then_some _ _ _ _ (moment_own 60 refl r.moment _ m)
    (then_some _ _ _ _ (facts_read (facts_in r) (codes "/></url>") f) refl))

-- a change that binds a name
word_read : (again : Bool) (rest : List ℕ)
    → strip (codes "</lastmod><rs:md change=\"" ++ change_word again ++ codes "\" datetime=\"")
    (codes "</lastmod>" ++ (codes "<rs:md change=\"" ++ (what_text (binding again) ++ (codes "\" datetime=\"" ++ rest)))) ≡ Some rest
unfolding strip
word_read false rest = refl
word_read true rest = refl

same_moment : (t : ℕ) → (t == t) ≡ true
same_moment t = grind (arith, nat_tests)

bound_read : (base name : List ℕ) (again : Bool) (moment : ℕ) (f : Facts) → IsTrue (is_base base) → IsTrue (is_name name)
    → AreFacts f → IsMoment moment
    → read_bound base again (change_line base (bound name again moment f)) ≡ Some (bound name again moment f)
unfolding read_bound strip
bound_read base name again moment f b n k m =
    then_some _ _ _ _ (name_own base name _ b n)
    (then_some _ _ _ _ (moment_own 60 refl moment _ m)
    (then_some _ _ _ _ (then_some _ _ _ _ (word_read again _) (moment_own 34 refl moment _ m))
    (then_some _ _ _ _ (facts_read f (codes "/></url>") k)
    (ap (λ x. cond x (Some (bound name again moment f)) None) (same_moment moment)))))

-- under the other word it does not read
not_created : (base name : List ℕ) (moment : ℕ) (f : Facts) → IsTrue (is_base base) → IsTrue (is_name name) → IsMoment moment
    → read_bound base false (change_line base (bound name true moment f)) ≡ None
unfolding read_bound strip
not_created base name moment f b n m = then_some _ _ _ _ (name_own base name _ b n) (then_some _ _ _ _ (moment_own 60 refl moment _ m) refl)

-- and neither does a deletion
not_bound : (base name : List ℕ) (again : Bool) (moment : ℕ) → IsTrue (is_base base) → IsTrue (is_name name)
    → read_bound base again (change_line base (deleted name moment)) ≡ None
unfolding read_bound strip
not_bound base name again moment b n = then_some _ _ _ _ (name_own base name _ b n) refl

deleted_read : (base name : List ℕ) (moment : ℕ) → IsTrue (is_base base) → IsTrue (is_name name) → IsMoment moment
    → read_deleted base (change_line base (deleted name moment)) ≡ Some (deleted name moment)
unfolding read_deleted strip
deleted_read base name moment b n m = then_some _ _ _ _ (name_own base name _ b n) (then_some _ _ _ _ (moment_own 34 refl moment _ m) refl)

any_bound_read : (base name : List ℕ) (again : Bool) (moment : ℕ) (f : Facts) → IsTrue (is_base base) → IsTrue (is_name name)
    → AreFacts f → IsMoment moment
    → read_change base (change_line base (bound name again moment f)) ≡ Some (bound name again moment f)
any_bound_read base name false moment f b n k m =
    let line : List ℕ = change_line base (bound name false moment f) in
    ap (λ (o : Option Change). o or_else read_bound base true line or_else read_deleted base line)
    (bound_read base name false moment f b n k m)
any_bound_read base name true moment f b n k m =
    let line : List ℕ = change_line base (bound name true moment f) in
    ap (λ (o : Option Change). o or_else read_bound base true line or_else read_deleted base line) (not_created base name moment f b n m)
    ∙ ap (λ (o : Option Change). o or_else read_deleted base line) (bound_read base name true moment f b n k m)

any_deleted_read : (base name : List ℕ) (moment : ℕ) → IsTrue (is_base base) → IsTrue (is_name name) → IsMoment moment
    → read_change base (change_line base (deleted name moment)) ≡ Some (deleted name moment)
any_deleted_read base name moment b n m =
    let line : List ℕ = change_line base (deleted name moment) in
    ap (λ (o : Option Change). o or_else read_bound base true line or_else read_deleted base line) (not_bound base name false moment b n)
    ∙ ap (λ (o : Option Change). o or_else read_deleted base line) (not_bound base name true moment b n)
    ∙ deleted_read base name moment b n m

pub change_line_read : (base : List ℕ) (c : Change) → IsTrue (is_base base) → IsChange c → read_change base (change_line base c) ≡ Some c
change_line_read base c b =
    by_kind (λ c. IsChange c → read_change base (change_line base c) ≡ Some c)
    (λ name again moment f h. any_bound_read base name again moment f b h.name h.facts h.moment)
    (λ name moment h. any_deleted_read base name moment b h.name h.moment) c

-- the content of the `rs:md` of lists
pub resource_md_read : (at : ℕ) → IsMoment at → read_resource_md (resource_md at) ≡ Some at
unfolding read_resource_md strip
resource_md_read at h = then_some _ _ _ _ (moment_own 34 refl at _ h) refl

-- the end of a part: none, or a moment
abbrev pub IsEnd : Option ℕ → Type 0
IsEnd until = IfSome until IsMoment

until_read : (until : Option ℕ) (rest : List ℕ) → IsEnd until
    → read_until (concat (until_parts until ++ (47 ∷ rest) ∷ [])) ≡ Some (until, 47 ∷ rest ++ [])
unfolding read_end strip
until_read None rest h = refl
until_read (Some t) rest h =
    ap (λ (o : Option (ℕ × List ℕ)). (o >>= λ t. strip (codes "\"") t.1 >>= λ b. Some (Some t.0, b)) or_else Some
    (None, codes " until=\"" ++ (moment_text t ++ (codes "\"" ++ (47 ∷ rest ++ [])))))
    (moment_own 34 refl t (47 ∷ rest ++ []) h)

pub change_md_read : (start : ℕ) (until : Option ℕ) → IsMoment start → IsEnd until
    → read_change_md (change_md start until) ≡ Some (start, until)
unfolding read_change_md strip
change_md_read start until h k = then_some _ _ _ _ (moment_own 34 refl start _ h) (then_some _ _ _ _ (until_read until (codes ">") k) refl)

-- the link up
longer : (c : ℕ) (text end : List ℕ) → length end ≤ length text → same_bytes (c ∷ text) end ≡ false
longer c text [] h = refl
longer c [] (d ∷ end) h = absurd (omega arith)
longer c (e ∷ text) (d ∷ end) h = ap (λ b. nat_eq c d && b) (longer e text end (omega arith)) ∙ and-false (nat_eq c d)

before_own : (c : ℕ) (end base : List ℕ) → before_end (c ∷ end) (base ++ c ∷ end) ≡ Some base
unfolding before_end
before_own c end [] = ap (λ b. cond b (Some []) (before_end (c ∷ end) end >>= λ rest. Some (c ∷ rest))) (same_bytes-itself (c ∷ end))
before_own c end (d ∷ base) =
    ap (λ b. cond b (Some []) (before_end (c ∷ end) (base ++ c ∷ end) >>= λ rest. Some (d ∷ rest)))
    (longer d (base ++ c ∷ end) (c ∷ end) (omega (arith, length-append base (c ∷ end))))
    ∙ ap (λ (o : Option (List ℕ)). o >>= λ rest. Some (d ∷ rest)) (before_own c end base)

base_read : (base : List ℕ) → IsTrue (is_base base) → read_base (base ++ codes "/capabilitylist.xml") ≡ Some base
base_read base h =
    then_some (before_end (codes "/capabilitylist.xml") (base ++ codes "/capabilitylist.xml"))
    (λ b. cond (is_base b) (Some b) None) base (Some base)
    (before_own 47 (codes "capabilitylist.xml") base) (ap (λ b. cond b (Some base) None) h)

pub up_read : (base : List ℕ) → IsTrue (is_base base) → read_up (up_line base) ≡ Some base
unfolding read_up strip
up_read base h =
    ap (λ t. value_to 34 read_base t >>= λ b. strip (codes "\"/>") b.1 >>= λ rest. whole b.0 rest)
    (sym (append_assoc base (codes "/capabilitylist.xml") (codes "\"/>")))
    ∙ then_some (value_to 34 read_base (base ++ codes "/capabilitylist.xml" ++ codes "\"/>"))
    (λ b. strip (codes "\"/>") b.1 >>= λ rest. whole b.0 rest) (base, codes "\"/>") (Some base)
    (clean_own 34 refl read_base (base ++ codes "/capabilitylist.xml") (codes "/>") base
    (joined_pass is_clean base (codes "/capabilitylist.xml") (base_clean base h) refl) (base_read base h))
    refl

-- the parts that an index names
path_own : (base : List ℕ) (doc : Doc) (rest : List ℕ) → IsTrue (is_base base) → HasCounts doc → IsClean (path_of doc)
    → value_to 60 (read_path base) ((base ++ path_of doc) ++ 60 ∷ rest) ≡ Some (path_of doc, 60 ∷ rest)
path_own base doc rest b counts c =
    clean_own 60 refl (read_path base) (base ++ path_of doc) rest (path_of doc)
    (joined_pass is_clean base (path_of doc) (base_clean base b) c)
    (then_some (strip base (base ++ path_of doc)) (λ p. if_known p (doc_of p)) (path_of doc) (Some (path_of doc))
    (strip_own base (path_of doc)) (ap (if_known (path_of doc)) (doc_of-path_of doc counts)))

pub resource_entry_read : (s : Shown) (k : ℕ) → IsTrue (is_base s.base) → s.number < 2 ^ 64 → k < 2 ^ 64 → IsMoment s.at
    → read_resource_entry s.base (resource_entry s k) ≡ Some (resource_entry_of s k)
unfolding read_resource_entry strip
resource_entry_read s k b p h m =
    then_some _ _ _ _ (path_own s.base (ResourcePart s.number k) _ b (p, h) (resource_part_path_clean s.number k p h))
    (then_some _ _ _ _ (moment_own 34 refl s.at _ m) refl)

pub change_entry_read : (s : Shown) (k : ℕ) → IsTrue (is_base s.base) → s.first + k < 2 ^ 64 → IsMoment (from_of s k)
    → IsEnd (until_of s k)
    → read_change_entry s.base (change_entry s k) ≡ Some (change_entry_of s k)
unfolding read_change_entry strip
change_entry_read s k b h m u =
    then_some _ _ _ _ (path_own s.base (ChangePart (s.first + k)) _ b h (change_part_path_clean (s.first + k) h))
    (then_some _ _ _ _ (moment_own 34 refl (from_of s k) _ m) (then_some _ _ _ _ (until_read (until_of s k) (codes "></sitemap>") u) refl))
