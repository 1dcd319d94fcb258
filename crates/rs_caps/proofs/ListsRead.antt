-- The lists of one state are gathered whole, and the Resource List mirrored with the Change List gives the held
-- resources.
use Rattle.std.proofs.Common.{◌≡◌, ℕ, ◌+◌, ◌-◌, ◌<◌, ◌≤◌, ◌^◌, List, [], ◌∷◌, length, map, refl, sym, ap, subst, ◌∙◌, arith, Option, Some, None, Bool, true, false, cond, nat_le, nat_lt}
use Rattle.std.specs.Prelude.{codes, ◌==◌, ◌&&◌}
use Rattle.std.specs.List.{AllByRecursion}
use Rattle.std.proofs.lemmas.Bool.Decides.{nat_tests}
use Rattle.std.proofs.lemmas.List.{map-id}
use Rattle.std.proofs.lemmas.Simd.{map-map}
use Rattle.rs_caps.proofs.FromBelow.{then_some}
use Rattle.rs_record.specs.declared.record.Record.{Record}
use Rattle.rs_record.specs.declared.change.Change.{Change}
use Rattle.rs_model.specs.declared.value.Entry.{Entry}
use Rattle.rs_model.specs.Names.{Names}
use Rattle.rs_model.specs.State.{Source, entries}
use Rattle.rs_model.specs.Step.{mirror_of}
use Rattle.rs_model.specs.Regular.{IsRegular}
use Rattle.rs_lists.specs.declared.doc.Doc.{Doc}
use Rattle.rs_lists.specs.declared.doc.Doc.TheVariants.{Description, Capabilities, ResourceHead, ResourcePart, ChangeHead, ChangePart}
use Rattle.rs_lists.specs.Chunks.{parts_of, part_at}
use Rattle.rs_lists.specs.Laws.{PartsAreChunks}
use Rattle.rs_lists.specs.Shown.{Shown, resource_parts_of, change_parts_of}
use Rattle.rs_lists.specs.Text.{list_text, numbers_from, resource_list, change_part_text, part_links, resource_part_path, change_part_path}
use Rattle.rs_caps.specs.Cut.{◌>>=◌}
use Rattle.rs_caps.specs.Paths.{path_of, doc_of, HasCounts}
use Rattle.rs_model.specs.Listed.{record_of}
use Rattle.rs_caps.specs.Shows.{shown_of}
use Rattle.rs_caps.specs.DocumentTexts.{document_text}
use Rattle.rs_caps.specs.Readings.{ListedResource, Document}
use Rattle.rs_caps.specs.Readings.Document.{ResourceList, ChangeList, ResourceListIndex, ChangeListIndex}
use Rattle.rs_caps.specs.Reads.{reads}
use Rattle.rs_caps.specs.Answer.{answer, document_or_body, listed_of, resource_entry_of, change_entry_of, change_part_of, resource_head_of, change_head_of, reading_of}
use Rattle.rs_caps.specs.Gather.{resources_in, changes_in, parts_at, gathered_resources, gathered_changes, gather_resources, gather_changes, listed_entry}
use Rattle.rs_model.specs.Lawful.{IsLawful}
use Rattle.rs_caps.proofs.Elements.{all_so, numbers_below}
use Rattle.rs_caps.proofs.PathsRead.{doc_of-path_of}
use Rattle.rs_caps.proofs.TextsRead.{IsReadable, shown_lawful, text_reads, parts_few}
use Rattle.rs_caps.proofs.Gathering.{IsPartAt, all_gathered}

-- a list, a part or an index
abbrev pub IsList : Doc → Type 0
IsList Description = ⊥
IsList Capabilities = ⊥
IsList ResourceHead = Unit {0}
IsList (ResourcePart publication k) = Unit {0}
IsList ChangeHead = Unit {0}
IsList (ChangePart k) = Unit {0}

list_is_text : (s : Shown) (doc : Doc) → IsList doc → document_text s doc ≡ list_text s doc
unfolding document_text
list_is_text s Description h = absurd h
list_is_text s Capabilities h = absurd h
list_is_text s ResourceHead h = refl
list_is_text s (ResourcePart publication k) h = refl
list_is_text s ChangeHead h = refl
list_is_text s (ChangePart k) h = refl

is_list : (s : Shown) (doc : Doc) (text : List ℕ) → list_text s doc ≡ Some text → IsList doc
unfolding list_text
is_list s Description text h = cc
is_list s Capabilities text h = cc
is_list s ResourceHead text h = tt
is_list s (ResourcePart publication k) text h = tt
is_list s ChangeHead text h = tt
is_list s (ChangePart k) text h = tt

pub answer_at : (s : Source) (path : List ℕ) (doc : Doc) → IsList doc → doc_of path ≡ Some doc → answer s path ≡ list_text (shown_of s) doc
answer_at s path doc list h = ap (document_or_body s path) h ∙ list_is_text (shown_of s) doc list

pub texts_answered : (s : Source) (path text : List ℕ) (doc : Doc) → doc_of path ≡ Some doc → list_text (shown_of s) doc ≡ Some text
    → answer s path ≡ Some text
texts_answered s path text doc d h = answer_at s path doc (is_list (shown_of s) doc text h) d ∙ h

pub texts_read : (s : Source) (text : List ℕ) (doc : Doc) → IsLawful s → list_text (shown_of s) doc ≡ Some text
    → reads text ≡ reading_of (shown_of s) doc
texts_read s text doc l h = text_reads (shown_of s) doc text (shown_lawful s l) h

pub more_than_one : (n : ℕ) → nat_le n 1 ≡ false → 1 < n
more_than_one n e = grind (arith, nat_tests)

-- parts of the Resource List
listed_test : (n p k : ℕ) → 1 < p → k < p → ((n == n) && (nat_lt 1 p && nat_le 0 k && nat_lt k (0 + p))) ≡ true
listed_test n p k a b = grind (arith, nat_tests)

listed_text : (s : Shown) (k : ℕ) → 1 < resource_parts_of s → k < resource_parts_of s
    → list_text s (ResourcePart s.number k)
    ≡ Some (resource_list s (part_links s (codes "/resourcelist.xml")) (part_at k s.limit s.published))
unfolding list_text
listed_text s k a b =
    ap (λ c. cond c (Some (resource_list s (part_links s (codes "/resourcelist.xml")) (part_at k s.limit s.published))) None)
    (listed_test s.number (resource_parts_of s) k a b)

resource_part : (s : Source) (k : ℕ) → IsLawful s → 1 < resource_parts_of (shown_of s) → k < resource_parts_of (shown_of s) → k < 60000
    → IsPartAt resources_in (answer s) (resource_part_path s.number k) (map listed_of (part_at k s.limit (map record_of s.listed)))
resource_part s k l a b few =
    let v : Shown = shown_of s in
    let shown_there = listed_text v k a b in
    record {
      text = resource_list v (part_links v (codes "/resourcelist.xml")) (part_at k v.limit v.published);
      document = ResourceList s.at (map listed_of (part_at k v.limit v.published));
      there = answer_at s (resource_part_path s.number k) (ResourcePart s.number k) tt
          (doc_of-path_of (ResourcePart s.number k) (l.number, omega arith)) ∙ shown_there;
      read = text_reads v (ResourcePart s.number k) _ (shown_lawful s l) shown_there;
      gives = refl;
    }

pub resources_from_parts : PartsAreChunks Record → (v : Shown) (fetched : List ℕ → Option (List ℕ)) (b : Bool) → IsReadable v
    → (b ≡ false → AllByRecursion (λ k. IsPartAt resources_in fetched (resource_part_path v.number k)
    (map listed_of (part_at k v.limit v.published))) (numbers_from 0 (resource_parts_of v)))
    → gathered_resources fetched (cond b (ResourceList v.at (map listed_of v.published))
    (ResourceListIndex v.at (map (resource_entry_of v) (numbers_from 0 (resource_parts_of v)))))
    ≡ Some (v.at, map listed_of v.published)
resources_from_parts chunks v fetched true l each = refl
resources_from_parts chunks v fetched false l each =
    let numbers : List ℕ = numbers_from 0 (resource_parts_of v) in
    let low : 2 ≤ v.limit = l.low in
    ap (λ paths. parts_at resources_in fetched paths >>= λ children. Some (v.at, children)) (map-map (λ p. p.path) (resource_entry_of v) numbers)
    ∙ ap (λ (o : Option (List ListedResource)). o >>= λ children. Some (v.at, children))
    (all_gathered listed_of resources_in fetched (resource_part_path v.number) v.limit v.published (chunks v.limit v.published (omega arith))
    (each refl))

own_resource_parts : (s : Source) → nat_le (resource_parts_of (shown_of s)) 1 ≡ false → IsLawful s
    → AllByRecursion (λ k. IsPartAt resources_in (answer s) (resource_part_path s.number k) (map listed_of (part_at k s.limit (map record_of s.listed))))
    (numbers_from 0 (resource_parts_of (shown_of s)))
own_resource_parts s e l =
    let v : Shown = shown_of s in
    let shown : IsReadable v = shown_lawful s l in
    let count : ℕ = resource_parts_of v in
    let few : count < 60000 = parts_few (length v.published) v.limit shown.published_room shown.low shown.high in
    let Part : ℕ → Type 0 = λ k. IsPartAt resources_in (answer s) (resource_part_path s.number k)
    (map listed_of (part_at k v.limit v.published)) in
    all_so (λ k. k < count) Part (λ k h. resource_part s k l (more_than_one count e) h (omega arith)) (numbers_from 0 count)
    (numbers_below 0 count count (omega arith))

head_text : (s : Shown) → (text : List ℕ) × (list_text s ResourceHead ≡ Some text)
unfolding list_text
head_text s = (_, refl)

change_head_text : (s : Shown) → (text : List ℕ) × (list_text s ChangeHead ≡ Some text)
unfolding list_text
change_head_text s = (_, refl)

-- the head of a list, as it is answered and read
head_read : (s : Source) (doc : Doc) → IsLawful s → IsList doc → HasCounts doc → (text : List ℕ) × (list_text (shown_of s) doc ≡ Some text)
    → (text : List ℕ) × (answer s (path_of doc) ≡ Some text) × (reads text ≡ reading_of (shown_of s) doc)
head_read s doc l list counts head = (
  head.0,
  answer_at s (path_of doc) doc list (doc_of-path_of doc counts) ∙ head.1,
  text_reads (shown_of s) doc head.0 (shown_lawful s l) head.1,
)

pub resource_head_read : (s : Source) → IsLawful s
    → (text : List ℕ) × (answer s (codes "/resourcelist.xml") ≡ Some text) × (reads text ≡ Some (resource_head_of (shown_of s)))
resource_head_read s l = head_read s ResourceHead l tt tt (head_text (shown_of s))

pub change_head_read : (s : Source) → IsLawful s
    → (text : List ℕ) × (answer s (codes "/changelist.xml") ≡ Some text) × (reads text ≡ Some (change_head_of (shown_of s)))
change_head_read s l = head_read s ChangeHead l tt tt (change_head_text (shown_of s))

-- the items gathered from a head that is answered as in some state
from_head : {A : Type 0} (gathered : Document → Option A) (fetched answered : Option (List ℕ)) (head : Document)
    → (text : List ℕ) × (answered ≡ Some text) × (reads text ≡ Some head) → fetched ≡ answered
    → (fetched >>= λ text. reads text >>= λ d. gathered d) ≡ gathered head
from_head gathered fetched answered head read same =
    then_some fetched _ read.0 _ (same ∙ read.1) (then_some (reads read.0) _ head _ read.2 refl)

pub resources_from_head : (s : Source) (fetched : List ℕ → Option (List ℕ)) → IsLawful s
    → fetched (codes "/resourcelist.xml") ≡ answer s (codes "/resourcelist.xml")
    → gather_resources fetched ≡ gathered_resources fetched (resource_head_of (shown_of s))
resources_from_head s fetched l same = from_head (gathered_resources fetched) _ _ _ (resource_head_read s l) same

pub changes_from_head : (s : Source) (fetched : List ℕ → Option (List ℕ)) → IsLawful s
    → fetched (codes "/changelist.xml") ≡ answer s (codes "/changelist.xml")
    → gather_changes fetched ≡ gathered_changes fetched (change_head_of (shown_of s))
changes_from_head s fetched l same = from_head (gathered_changes fetched) _ _ _ (change_head_read s l) same

pub resources_gathered : PartsAreChunks Record → (s : Source) → IsLawful s → gather_resources (answer s) ≡ Some (s.at, map listed_of (map record_of s.listed))
resources_gathered chunks s l =
    resources_from_head s (answer s) l refl
    ∙ resources_from_parts chunks (shown_of s) (answer s) _ (shown_lawful s l) (λ e. own_resource_parts s e l)

-- parts of the Change List
changed_test : (p first k : ℕ) → 1 < p → k < p → (nat_lt 1 p && nat_le first (first + k) && nat_lt (first + k) (first + p)) ≡ true
changed_test p first k a b = grind (arith, nat_tests)

changed_text : (s : Source) (k : ℕ) → 1 < change_parts_of (shown_of s) → k < change_parts_of (shown_of s)
    → list_text (shown_of s) (ChangePart (s.first + k)) ≡ Some (change_part_text (shown_of s) (s.first + k - s.first))
unfolding list_text
changed_text s k a b = ap (λ c. cond c (Some (change_part_text (shown_of s) (s.first + k - s.first))) None)
    (changed_test (change_parts_of (shown_of s)) s.first k a b)

change_part : (s : Source) (k : ℕ) → IsLawful s → 1 < change_parts_of (shown_of s) → k < change_parts_of (shown_of s) → k < 60000
    → IsPartAt changes_in (answer s) (change_part_path (s.first + k)) (map (λ c. c) (part_at k s.limit s.changes))
change_part s k l a b few =
    let v : Shown = shown_of s in
    let n : ℕ = s.first + k in
    let shown_there = changed_text s k a b in
    let number : n - s.first ≡ k = omega arith in
    let small : n < 2 ^ 64 = omega (arith, l.first) in
    record {
      text = change_part_text v (n - s.first);
      document = change_part_of v (n - s.first);
      there = answer_at s (change_part_path n) (ChangePart n) tt (doc_of-path_of (ChangePart n) small) ∙ shown_there;
      read = text_reads v (ChangePart n) _ (shown_lawful s l) shown_there;
      gives = ap (λ m. Some (part_at m s.limit s.changes)) number ∙ ap Some (sym (map-id (part_at k s.limit s.changes)));
    }

-- the changes of an index, from its parts as they were fetched
pub changes_from_parts : PartsAreChunks Change → (v : Shown) (fetched : List ℕ → Option (List ℕ)) (items : List Change) (count : ℕ)
    → 2 ≤ v.limit → parts_of (length items) v.limit ≡ count
    → AllByRecursion (λ k. IsPartAt changes_in fetched (change_part_path (v.first + k)) (map (λ c. c) (part_at k v.limit items))) (numbers_from 0 count)
    → gathered_changes fetched (ChangeListIndex v.begin None (map (change_entry_of v) (numbers_from 0 count))) ≡ Some (v.begin, items)
changes_from_parts chunks v fetched items count low same each =
    let Part : ℕ → Type 0 = λ k. IsPartAt changes_in fetched (change_part_path (v.first + k)) (map (λ c. c) (part_at k v.limit items)) in
    ap (λ n. gathered_changes fetched (ChangeListIndex v.begin None (map (change_entry_of v) (numbers_from 0 n)))) (sym same)
    ∙ ap (λ paths. parts_at changes_in fetched paths >>= λ children. Some (v.begin, children))
    (map-map (λ p. p.path) (change_entry_of v) (numbers_from 0 (parts_of (length items) v.limit)))
    ∙ ap (λ (o : Option (List Change)). o >>= λ children. Some (v.begin, children))
    (all_gathered (λ c. c) changes_in fetched (λ k. change_part_path (v.first + k)) v.limit items (chunks v.limit items (omega arith))
    (subst (λ n. AllByRecursion Part (numbers_from 0 n)) (sym same) each))
    ∙ ap (λ cs. Some (v.begin, cs)) (map-id items)

changes_by : PartsAreChunks Change → (s : Source) (b : Bool) → nat_le (change_parts_of (shown_of s)) 1 ≡ b → IsLawful s
    → gathered_changes (answer s) (cond b (ChangeList s.begin None s.changes)
    (ChangeListIndex s.begin None (map (change_entry_of (shown_of s)) (numbers_from 0 (change_parts_of (shown_of s))))))
    ≡ Some (s.begin, s.changes)
changes_by chunks s true e l = refl
changes_by chunks s false e l =
    let v : Shown = shown_of s in
    let count : ℕ = change_parts_of v in
    let few : count < 60000 = parts_few (length v.changes) v.limit l.changes_room l.low l.high in
    let Part : ℕ → Type 0 = λ k. IsPartAt changes_in (answer s) (change_part_path (s.first + k)) (map (λ c. c) (part_at k v.limit v.changes)) in
    changes_from_parts chunks v (answer s) v.changes count l.low refl
    (all_so (λ k. k < count) Part (λ k h. change_part s k l (more_than_one count e) h (omega arith)) (numbers_from 0 count)
    (numbers_below 0 count count (omega arith)))

pub changes_gathered : PartsAreChunks Change → (s : Source) → IsLawful s → gather_changes (answer s) ≡ Some (s.begin, s.changes)
changes_gathered chunks s l = changes_from_head s (answer s) l refl ∙ changes_by chunks s _ refl l

-- the listed resources are the published ones
pub same_entries : (m : Names Entry) → map listed_entry (map listed_of (map record_of m)) ≡ m
same_entries [] = refl
same_entries (e ∷ m) = ap (λ l. e ∷ l) (same_entries m)

pub same_pair : {A : Type 0} (a b : ℕ × A) → Some a ≡ Some b → (a.0 ≡ b.0) × (a.1 ≡ b.1)
same_pair a b h = let same : a ≡ b = cc in (ap (λ p. p.0) same, ap (λ p. p.1) same)

pub lists_mirror : PartsAreChunks Record → PartsAreChunks Change → (s : Source) → IsRegular s → IsLawful s → (at start : ℕ) (listed : List ListedResource) (changes : List Change)
    → gather_resources (answer s) ≡ Some (at, listed) → gather_changes (answer s) ≡ Some (start, changes)
    → mirror_of (map listed_entry listed) at changes ≡ entries s.held
lists_mirror listed_chunks change_chunks s r l at start listed changes h g =
    let resources = same_pair (s.at, map listed_of (map record_of s.listed)) (at, listed) (sym (resources_gathered listed_chunks s l) ∙ h) in
    let same_changes = same_pair (s.begin, s.changes) (start, changes) (sym (changes_gathered change_chunks s l) ∙ g) in
    (λ i. mirror_of (map listed_entry (sym resources.1 i)) (sym resources.0 i) (sym same_changes.1 i))
    ∙ ap (λ m. mirror_of m s.at s.changes) (same_entries s.listed) ∙ r.mirrored
