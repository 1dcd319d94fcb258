-- Every text of a lawful source reads as its document.
use Rattle.std.proofs.Common.{◌≡◌, ℕ, ◌+◌, ◌-◌, ◌*◌, ◌<◌, ◌≤◌, ◌^◌, List, [], ◌∷◌, ◌++◌, length, map, take, drop, refl, sym, ap, ◌∙◌, arith, Option, Some, None, Bool, true, false, cond, nat_le}
use Rattle.std.proofs.lemmas.List.{length-map}
use Rattle.std.proofs.lemmas.Nat.{div_below}
use Rattle.std.specs.Prelude.{codes, IsTrue, ◌==◌, ◌&&◌}
use Rattle.std.specs.List.{AllByRecursion}
use Rattle.rs_time.specs.Moment.{IsMoment}
use Rattle.rs_record.specs.Base.{is_base}
use Rattle.rs_record.specs.Name.{is_name}
use Rattle.rs_record.specs.Changes.{last_moment}
use Rattle.rs_record.specs.Format.{facts_in}
use Rattle.rs_record.specs.declared.record.Record.{Record}
use Rattle.rs_record.specs.declared.change.Change.{Change}
use Rattle.rs_model.specs.State.{Source}
use Rattle.rs_lists.specs.declared.doc.Doc.{Doc}
use Rattle.rs_lists.specs.declared.doc.Doc.TheVariants.{Description, Capabilities, ResourceHead, ResourcePart, ChangeHead, ChangePart}
use Rattle.rs_lists.specs.Chunks.{parts_of, part_at}
use Rattle.rs_lists.specs.Shown.{Shown, resource_parts_of, change_parts_of}
use Rattle.rs_lists.specs.Text.{list_text, close_line, up_line, link_line, resource_line, change_line, resource_md, change_md, resource_entry, change_entry, numbers_from, from_of, until_of, is_part, resource_list, resource_index, change_list, change_index, part_links, change_part_text}
use Rattle.rs_caps.specs.Cut.{◌>>=◌, ◌or_else◌, strip}
use Rattle.rs_model.specs.Listed.{record_of}
use Rattle.rs_caps.specs.Shows.{shown_of}
use Rattle.rs_caps.specs.Readings.{ResourceEntry, ChangeEntry, Document}
use Rattle.rs_caps.specs.Readings.Document.{ResourceList, ChangeList, ResourceListIndex, ChangeListIndex}
use Rattle.rs_caps.specs.ReadLines.{read_resource, read_change, read_resource_entry, read_change_entry, read_resource_md, read_change_md}
use Rattle.rs_caps.specs.Reads.{reads, next_line, read_children, read_resource_list, read_change_list, read_resource_index, read_change_index}
use Rattle.rs_caps.specs.Answer.{listed_of, resource_entry_of, change_entry_of, change_part_of, reading_of}
use Rattle.rs_model.specs.Lawful.{AreFacts, IsEntry, IsChange, IsLawful}
use Rattle.rs_caps.proofs.Elements.{all_so, all_mapped, numbers_below}
use Rattle.rs_caps.proofs.FromBelow.{all_taken, all_dropped}
use Rattle.rs_caps.proofs.Lines.{IsLine, AreLines, onto, children_lines, read_children-map}
use Rattle.rs_caps.proofs.LinesRead.{IsEnd, resource_line_read, change_line_read, resource_md_read, change_md_read, resource_entry_read, change_entry_read}
use Rattle.rs_caps.proofs.WrittenLines.{resource_is_line, change_is_line, resource_md_is_line, change_md_is_line, resource_entry_is_line, change_entry_is_line, link_is_line}
use Rattle.rs_caps.proofs.DocumentsRead.{paired, list_reads, index_reads, after_own_index, after_other_index, resources_read, changes_read}

-- the requirements of the reading of a text on the shown values: every lawful source meets them
pub record IsRecord (r : Record) : Type 0 where
  pub name : IsTrue (is_name r.name)
  pub facts : AreFacts (facts_in r)
  pub moment : IsMoment r.moment

pub record IsReadable (s : Shown) : Type 0 where
  pub base : IsTrue (is_base s.base)
  pub low : 2 ≤ s.limit
  pub high : s.limit ≤ 4000
  pub begin : IsMoment s.begin
  pub at : IsMoment s.at
  pub number : s.number < 2 ^ 64
  pub first : s.first + 60000 ≤ 2 ^ 64
  pub published : AllByRecursion IsRecord s.published
  pub changes : AllByRecursion IsChange s.changes
  pub published_room : length s.published ≤ 50000
  pub changes_room : length s.changes ≤ 50000

pub shown_lawful : (s : Source) → IsLawful s → IsReadable (shown_of s)
shown_lawful s h =
    record {
      base = h.base;
      low = h.low;
      high = h.high;
      begin = h.begin;
      at = h.at;
      number = h.number;
      first = omega (arith, h.first);
      published = all_mapped IsEntry IsRecord record_of
          (λ e k. record { name = k.name; facts = k.facts; moment = k.moment }) s.listed h.listed;
      changes = h.changes;
      published_room = omega (arith, length-map s.listed record_of, h.listed_room);
      changes_room = h.changes_room;
    }

-- the lines of resources and of changes
resource_lines : (s : Shown) (records : List Record) → IsReadable s → AllByRecursion IsRecord records
    → AreLines (resource_md s.at ∷ map (resource_line s.base) records ++ close_line (codes "urlset") ∷ [])
resource_lines s records l h =
    onto (resource_md s.at) _ (resource_md_is_line s.at)
    (children_lines (resource_line s.base) (close_line (codes "urlset")) records
    (all_so IsRecord (λ r. IsLine (resource_line s.base r)) (λ r k. resource_is_line s.base r l.base k.name k.facts) records h) refl)

change_lines : (s : Shown) (start : ℕ) (until : Option ℕ) (changes : List Change) → IsReadable s → AllByRecursion IsChange changes
    → AreLines (change_md start until ∷ map (change_line s.base) changes ++ close_line (codes "urlset") ∷ [])
change_lines s start until changes l h =
    onto (change_md start until) _ (change_md_is_line start until)
    (children_lines (change_line s.base) (close_line (codes "urlset")) changes
    (all_so IsChange (λ c. IsLine (change_line s.base c)) (λ c k. change_is_line s.base c l.base k) changes h) refl)

resources_from : (s : Shown) (records : List Record) → IsReadable s → AllByRecursion IsRecord records
    → (next_line read_resource_md (resource_md s.at ∷ map (resource_line s.base) records ++ close_line (codes "urlset") ∷ [])
    >>= λ at. read_children (read_resource s.base) (codes "</urlset>") at.1 >>= λ children. Some (ResourceList at.0 children))
    ≡ Some (ResourceList s.at (map listed_of records))
resources_from s records l h =
    resources_read s.base s.at records l.at
    (all_so IsRecord (λ r. read_resource s.base (resource_line s.base r) ≡ Some (listed_of r))
    (λ r k. resource_line_read s.base r l.base k.name k.facts k.moment) records h)

changes_from : (s : Shown) (start : ℕ) (until : Option ℕ) (changes : List Change) → IsReadable s → IsMoment start → IsEnd until
    → AllByRecursion IsChange changes
    → (next_line read_change_md (change_md start until ∷ map (change_line s.base) changes ++ close_line (codes "urlset") ∷ [])
    >>= λ bounds. read_children (read_change s.base) (codes "</urlset>") bounds.1
    >>= λ children. Some (ChangeList bounds.0.0 bounds.0.1 children))
    ≡ Some (ChangeList start until changes)
changes_from s start until changes l m u h =
    changes_read s.base start until changes m u
    (all_so IsChange (λ c. read_change s.base (change_line s.base c) ≡ Some c) (λ c k. change_line_read s.base c l.base k) changes h)

-- lists, whole and in parts
resource_list_reads : (s : Shown) (records : List Record) → IsReadable s → AllByRecursion IsRecord records
    → reads (resource_list s (up_line s.base ∷ []) records) ≡ Some (ResourceList s.at (map listed_of records))
unfolding read_resource_list
resource_list_reads s records l h =
    let rest : List (List ℕ) = resource_md s.at ∷ map (resource_line s.base) records ++ close_line (codes "urlset") ∷ [] in
    list_reads s.base rest (ResourceList s.at (map listed_of records)) l.base (resource_lines s records l h)
    (ap (λ (o : Option Document). o or_else read_change_list s.base rest) (resources_from s records l h))

resource_part_reads : (s : Shown) (records : List Record) → IsReadable s → AllByRecursion IsRecord records
    → reads (resource_list s (part_links s (codes "/resourcelist.xml")) records) ≡ Some (ResourceList s.at (map listed_of records))
unfolding read_resource_list
resource_part_reads s records l h =
    let link : List ℕ = link_line (codes "index") s.base (codes "/resourcelist.xml") in
    let rest : List (List ℕ) = resource_md s.at ∷ map (resource_line s.base) records ++ close_line (codes "urlset") ∷ [] in
    list_reads s.base (link ∷ rest) (ResourceList s.at (map listed_of records)) l.base
    (onto link _ (link_is_line (codes "index") s.base (codes "/resourcelist.xml") refl l.base refl) (resource_lines s records l h))
    (ap (λ (o : Option Document). o or_else read_change_list s.base (link ∷ rest))
    (ap (λ lines. next_line read_resource_md lines >>= λ at. read_children (read_resource s.base) (codes "</urlset>") at.1
    >>= λ children. Some (ResourceList at.0 children)) (after_own_index s.base (codes "/resourcelist.xml") rest)
    ∙ resources_from s records l h))

change_list_reads : (s : Shown) (start : ℕ) (until : Option ℕ) (changes : List Change) → IsReadable s → IsMoment start
    → IsEnd until → AllByRecursion IsChange changes
    → reads (change_list s (up_line s.base ∷ []) start until changes) ≡ Some (ChangeList start until changes)
unfolding read_resource_list read_resource_md strip read_change_list
change_list_reads s start until changes l m u h =
    list_reads s.base (change_md start until ∷ map (change_line s.base) changes ++ close_line (codes "urlset") ∷ [])
    (ChangeList start until changes) l.base
    (change_lines s start until changes l h) (changes_from s start until changes l m u h)

not_resources : (base : List ℕ) (lines : List (List ℕ))
    → read_resource_list base (link_line (codes "index") base (codes "/changelist.xml") ∷ lines) ≡ None
unfolding read_resource_list read_resource_md strip
not_resources base lines =
    ap (λ lines. next_line read_resource_md lines >>= λ at. read_children (read_resource base) (codes "</urlset>") at.1
    >>= λ children. Some (ResourceList at.0 children)) (after_other_index base lines)

change_part_reads : (s : Shown) (start : ℕ) (until : Option ℕ) (changes : List Change) → IsReadable s → IsMoment start
    → IsEnd until → AllByRecursion IsChange changes
    → reads (change_list s (part_links s (codes "/changelist.xml")) start until changes) ≡ Some (ChangeList start until changes)
unfolding read_change_list
change_part_reads s start until changes l m u h =
    let link : List ℕ = link_line (codes "index") s.base (codes "/changelist.xml") in
    let rest : List (List ℕ) = change_md start until ∷ map (change_line s.base) changes ++ close_line (codes "urlset") ∷ [] in
    list_reads s.base (link ∷ rest) (ChangeList start until changes) l.base
    (onto link _ (link_is_line (codes "index") s.base (codes "/changelist.xml") refl l.base refl) (change_lines s start until changes l h))
    (ap (λ (o : Option Document). o or_else read_change_list s.base (link ∷ rest)) (not_resources s.base rest)
    ∙ ap (λ lines. next_line read_change_md lines >>= λ bounds. read_children (read_change s.base) (codes "</urlset>") bounds.1
    >>= λ children. Some (ChangeList bounds.0.0 bounds.0.1 children)) (after_own_index s.base (codes "/changelist.xml") rest)
    ∙ changes_from s start until changes l m u h)

-- indexes
pub parts_few : (n limit : ℕ) → n ≤ 50000 → 2 ≤ limit → limit ≤ 4000 → parts_of n limit < 60000
parts_few n limit a b d = div_below (n + limit - 1) limit 60000 (omega arith) (omega arith)

last_bound : (t : ℕ) (changes : List Change) → IsMoment t → AllByRecursion IsChange changes → IsMoment (last_moment t changes)
last_bound t [] h k = h
last_bound t (c ∷ changes) h k = last_bound c.moment changes k.0.moment k.1

from_bound : (s : Shown) (k : ℕ) → IsReadable s → IsMoment (from_of s k)
from_bound s k l = last_bound s.begin (take (k * s.limit) s.changes) l.begin (all_taken IsChange (k * s.limit) s.changes l.changes)

end_if : (b : Bool) (t : ℕ) → IsMoment t → IsEnd (cond b (Some t) None)
end_if true t h = h
end_if false t h = tt

until_bound : (s : Shown) (k : ℕ) → IsReadable s → IsEnd (until_of s k)
until_bound s k l = end_if (nat_le ((k + 1) * s.limit) (length s.changes)) (from_of s (k + 1)) (from_bound s (k + 1) l)

resource_entries_read : (s : Shown) (numbers : List ℕ) → IsReadable s → AllByRecursion (λ k. k < 60000) numbers
    → read_resource_index s.base (resource_md s.at ∷ map (resource_entry s) numbers ++ close_line (codes "sitemapindex") ∷ [])
    ≡ Some (ResourceListIndex s.at (map (resource_entry_of s) numbers))
unfolding read_resource_index
resource_entries_read s numbers l h =
    ap (λ (o : Option ℕ). paired (map (resource_entry s) numbers ++ close_line (codes "sitemapindex") ∷ []) o
    >>= λ at. read_children (read_resource_entry s.base) (codes "</sitemapindex>") at.1
    >>= λ parts. Some (ResourceListIndex at.0 parts)) (resource_md_read s.at l.at)
    ∙ ap (λ (o : Option (List ResourceEntry)). o >>= λ parts. Some (ResourceListIndex s.at parts))
    (read_children-map (read_resource_entry s.base) (resource_entry s) (resource_entry_of s) (codes "</sitemapindex>") numbers
    (all_so (λ k. k < 60000) (λ k. read_resource_entry s.base (resource_entry s k) ≡ Some (resource_entry_of s k))
    (λ k few. resource_entry_read s k l.base l.number (omega arith) l.at) numbers h))

change_entries_read : (s : Shown) (numbers : List ℕ) → IsReadable s → AllByRecursion (λ k. k < 60000) numbers
    → read_change_index s.base (change_md s.begin None ∷ map (change_entry s) numbers ++ close_line (codes "sitemapindex") ∷ [])
    ≡ Some (ChangeListIndex s.begin None (map (change_entry_of s) numbers))
unfolding read_change_index
change_entries_read s numbers l h =
    ap (λ (o : Option (ℕ × Option ℕ)). paired (map (change_entry s) numbers ++ close_line (codes "sitemapindex") ∷ []) o
    >>= λ bounds. read_children (read_change_entry s.base) (codes "</sitemapindex>") bounds.1
    >>= λ parts. Some (ChangeListIndex bounds.0.0 bounds.0.1 parts)) (change_md_read s.begin None l.begin tt)
    ∙ ap (λ (o : Option (List ChangeEntry)). o >>= λ parts. Some (ChangeListIndex s.begin None parts))
    (read_children-map (read_change_entry s.base) (change_entry s) (change_entry_of s) (codes "</sitemapindex>") numbers
    (all_so (λ k. k < 60000) (λ k. read_change_entry s.base (change_entry s k) ≡ Some (change_entry_of s k))
    (λ k few. let room : s.first + 60000 ≤ 2 ^ 64 = l.first in change_entry_read s k l.base (omega arith) (from_bound s k l)
    (until_bound s k l)) numbers h))

resource_index_reads : (s : Shown) → IsReadable s
    → reads (resource_index s) ≡ Some (ResourceListIndex s.at (map (resource_entry_of s) (numbers_from 0 (resource_parts_of s))))
resource_index_reads s l =
    let numbers : List ℕ = numbers_from 0 (resource_parts_of s) in
    let few : resource_parts_of s < 60000 = parts_few (length s.published) s.limit l.published_room l.low l.high in
    let each : AllByRecursion (λ k. k < 60000) numbers = numbers_below 0 (resource_parts_of s) 60000 (omega arith) in
    let rest : List (List ℕ) = resource_md s.at ∷ map (resource_entry s) numbers ++ close_line (codes "sitemapindex") ∷ [] in
    index_reads s.base rest (ResourceListIndex s.at (map (resource_entry_of s) numbers)) l.base
    (onto (resource_md s.at) _ (resource_md_is_line s.at) (children_lines (resource_entry s) (close_line (codes "sitemapindex")) numbers
    (all_so (λ k. k < 60000) (λ k. IsLine (resource_entry s k))
    (λ k h. resource_entry_is_line s k l.base l.number (omega arith)) numbers each) refl))
    (ap (λ (o : Option Document). o or_else read_change_index s.base rest) (resource_entries_read s numbers l each))

not_resource_index : (base : List ℕ) (start : ℕ) (lines : List (List ℕ)) → read_resource_index base (change_md start None ∷ lines) ≡ None
unfolding read_resource_index read_resource_md strip
not_resource_index base start lines = refl

change_index_reads : (s : Shown) → IsReadable s
    → reads (change_index s) ≡ Some (ChangeListIndex s.begin None (map (change_entry_of s) (numbers_from 0 (change_parts_of s))))
change_index_reads s l =
    let numbers : List ℕ = numbers_from 0 (change_parts_of s) in
    let few : change_parts_of s < 60000 = parts_few (length s.changes) s.limit l.changes_room l.low l.high in
    let each : AllByRecursion (λ k. k < 60000) numbers = numbers_below 0 (change_parts_of s) 60000 (omega arith) in
    let rest : List (List ℕ) = change_md s.begin None ∷ map (change_entry s) numbers ++ close_line (codes "sitemapindex") ∷ [] in
    let room : s.first + 60000 ≤ 2 ^ 64 = l.first in
    index_reads s.base rest (ChangeListIndex s.begin None (map (change_entry_of s) numbers)) l.base
    (onto (change_md s.begin None) _ (change_md_is_line s.begin None)
    (children_lines (change_entry s) (close_line (codes "sitemapindex")) numbers
    (all_so (λ k. k < 60000) (λ k. IsLine (change_entry s k)) (λ k h. change_entry_is_line s k l.base (omega arith)) numbers each) refl))
    (ap (λ (o : Option Document). o or_else read_change_index s.base rest)
    (not_resource_index s.base s.begin (map (change_entry s) numbers ++ close_line (codes "sitemapindex") ∷ []))
    ∙ change_entries_read s numbers l each)

-- all documents
one_of_two : (b : Bool) (x y text : List ℕ) (d e : Document) → reads x ≡ Some d → reads y ≡ Some e → Some (cond b x y) ≡ Some text
    → reads text ≡ Some (cond b d e)
one_of_two true x y text d e p q h = let same : x ≡ text = cc in ap reads (sym same) ∙ p
one_of_two false x y text d e p q h = let same : y ≡ text = cc in ap reads (sym same) ∙ q

where_there : (b : Bool) (x text : List ℕ) (d : Document) → reads x ≡ Some d → cond b (Some x) None ≡ Some text → reads text ≡ Some d
where_there true x text d p h = let same : x ≡ text = cc in ap reads (sym same) ∙ p
where_there false x text d p h = cc

pub text_reads : (s : Shown) (doc : Doc) (text : List ℕ) → IsReadable s → list_text s doc ≡ Some text → reads text ≡ reading_of s doc
unfolding list_text
text_reads s ResourceHead text l h =
    one_of_two (nat_le (resource_parts_of s) 1) (resource_list s (up_line s.base ∷ []) s.published) (resource_index s) text
    (ResourceList s.at (map listed_of s.published))
    (ResourceListIndex s.at (map (resource_entry_of s) (numbers_from 0 (resource_parts_of s))))
    (resource_list_reads s s.published l l.published) (resource_index_reads s l) h
text_reads s (ResourcePart publication k) text l h =
    where_there ((publication == s.number) && is_part (resource_parts_of s) 0 k)
    (resource_list s (part_links s (codes "/resourcelist.xml")) (part_at k s.limit s.published)) text
    (ResourceList s.at (map listed_of (part_at k s.limit s.published)))
    (resource_part_reads s (part_at k s.limit s.published) l
    (all_taken IsRecord s.limit (drop (k * s.limit) s.published) (all_dropped IsRecord (k * s.limit) s.published l.published))) h
text_reads s ChangeHead text l h =
    one_of_two (nat_le (change_parts_of s) 1) (change_list s (up_line s.base ∷ []) s.begin None s.changes) (change_index s) text
    (ChangeList s.begin None s.changes) (ChangeListIndex s.begin None (map (change_entry_of s) (numbers_from 0 (change_parts_of s))))
    (change_list_reads s s.begin None s.changes l l.begin tt l.changes) (change_index_reads s l) h
text_reads s (ChangePart number) text l h =
    let k : ℕ = number - s.first in
    where_there (is_part (change_parts_of s) s.first number) (change_part_text s k) text (change_part_of s k)
    (change_part_reads s (from_of s k) (until_of s k) (part_at k s.limit s.changes) l (from_bound s k l) (until_bound s k l)
    (all_taken IsChange s.limit (drop (k * s.limit) s.changes) (all_dropped IsChange (k * s.limit) s.changes l.changes))) h
text_reads s Description text l h = cc
text_reads s Capabilities text l h = cc
