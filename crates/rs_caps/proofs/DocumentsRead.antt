-- The text of a list or an index reads as the content of its lines.
use Rattle.std.proofs.Common.{◌≡◌, ℕ, List, [], ◌∷◌, ◌++◌, map, refl, ap, ◌∙◌, arith, Option, Some, true, cond, append_assoc}
use Rattle.std.specs.Prelude.{codes, IsTrue, ◌==◌, ◌&&◌}
use Rattle.std.specs.List.{AllByRecursion}
use Rattle.std.proofs.lemmas.Bool.Decides.{nat_tests}
use Rattle.std.proofs.lemmas.List.{map-id}
use Rattle.rs_time.specs.Moment.{IsMoment}
use Rattle.rs_time.specs.ReadMoment.{same_bytes}
use Rattle.rs_record.specs.Base.{is_base}
use Rattle.rs_record.specs.declared.record.Record.{Record}
use Rattle.rs_record.specs.declared.change.Change.{Change}
use Rattle.rs_lists.specs.Text.{joined, xml_line, open_line, close_line, up_line, link_line, resource_line, change_line, resource_md, change_md}
use Rattle.rs_caps.specs.Cut.{◌>>=◌, ◌or_else◌}
use Rattle.rs_caps.specs.Readings.{ListedResource, Document}
use Rattle.rs_caps.specs.Readings.Document.{ResourceList, ChangeList}
use Rattle.rs_caps.specs.ReadLines.{read_resource, read_change, read_resource_md, read_change_md}
use Rattle.rs_caps.specs.Reads.{reads, read_list, read_index, next_line, after_line, after_index, read_children, read_resource_list, read_change_list, read_resource_index, read_change_index}
use Rattle.rs_caps.specs.Answer.{listed_of}
use Rattle.rs_caps.proofs.Steps.{same_bytes-itself}
use Rattle.rs_caps.proofs.Lines.{IsLine, AreLines, onto, lines_of-joined, read_children-map}
use Rattle.rs_caps.proofs.LinesRead.{IsEnd, up_read, resource_md_read, change_md_read}
use Rattle.rs_caps.proofs.WrittenLines.{link_is_line}

-- the reading of a line, with the lines after it
abbrev pub paired : {X : Type 0} → List (List ℕ) → Option X → Option (X × List (List ℕ))
paired lines o = o >>= λ x. Some (x, lines)

-- after its first line a document is read as a list or as an index
abbrev after_xml : List (List ℕ) → Option Document
after_xml lines = after_line xml_line lines >>= λ a. read_list a or_else read_index a

-- a document is read by its lines after the first
opened_reads : (tag base : List ℕ) (rest : List (List ℕ)) → IsLine (open_line tag) → IsTrue (is_base base) → AreLines rest
    → reads (joined (xml_line ∷ open_line tag ∷ up_line base ∷ rest)) ≡ after_xml (xml_line ∷ open_line tag ∷ up_line base ∷ rest)
unfolding reads
opened_reads tag base rest t b lines =
    ap (λ (o : Option (List (List ℕ))). o >>= after_xml)
    (lines_of-joined (xml_line ∷ open_line tag ∷ up_line base ∷ rest)
    (onto (open_line tag) _ t (onto (up_line base) _ (link_is_line (codes "up") base (codes "/capabilitylist.xml") refl b refl) lines)))

pub list_reads : (base : List ℕ) (rest : List (List ℕ)) (d : Document) → IsTrue (is_base base) → AreLines rest
    → (read_resource_list base rest or_else read_change_list base rest) ≡ Some d
    → reads (joined (xml_line ∷ open_line (codes "urlset") ∷ up_line base ∷ rest)) ≡ Some d
unfolding read_list
list_reads base rest d b lines h =
    opened_reads (codes "urlset") base rest refl b lines
    ∙ ap (λ (o : Option Document). o or_else read_index (open_line (codes "urlset") ∷ up_line base ∷ rest))
    (ap (λ (o : Option (List ℕ)). paired rest o >>= λ b. read_resource_list b.0 b.1 or_else read_change_list b.0 b.1) (up_read base b) ∙ h)

pub index_reads : (base : List ℕ) (rest : List (List ℕ)) (d : Document) → IsTrue (is_base base) → AreLines rest
    → (read_resource_index base rest or_else read_change_index base rest) ≡ Some d
    → reads (joined (xml_line ∷ open_line (codes "sitemapindex") ∷ up_line base ∷ rest)) ≡ Some d
unfolding read_list read_index
index_reads base rest d b lines h =
    opened_reads (codes "sitemapindex") base rest refl b lines
    ∙ ap (λ (o : Option (List ℕ)). paired rest o >>= λ b. read_resource_index b.0 b.1 or_else read_change_index b.0 b.1)
    (up_read base b) ∙ h

-- a part's link to its index
link_apart : (base path : List ℕ)
    → codes "<rs:ln rel=\"index\" href=\"" ++ base ++ path ++ codes "\"/>" ≡ link_line (codes "index") base path
link_apart base path = append_assoc (codes "<rs:ln rel=\"index\" href=\"" ++ base) path (codes "\"/>")
    ∙ append_assoc (codes "<rs:ln rel=\"index\" href=\"") base (path ++ codes "\"/>")

pub after_own_index : (base path : List ℕ) (lines : List (List ℕ))
    → after_index base path (link_line (codes "index") base path ∷ lines) ≡ lines
after_own_index base path lines =
    let link : List ℕ = link_line (codes "index") base path in
    ap (λ l. cond (same_bytes link l) lines (link ∷ lines)) (link_apart base path)
    ∙ ap (λ b. cond b lines (link ∷ lines)) (same_bytes-itself link)

same_bytes-append : (a x y : List ℕ) → same_bytes (a ++ x) (a ++ y) ≡ same_bytes x y
same_bytes-append [] x y = refl
same_bytes-append (c ∷ a) x y = let e : (c == c) ≡ true = grind (arith, nat_tests) in ap (λ b. b && same_bytes (a ++ x) (a ++ y)) e
    ∙ same_bytes-append a x y

pub after_other_index : (base : List ℕ) (lines : List (List ℕ))
    → after_index base (codes "/resourcelist.xml") (link_line (codes "index") base (codes "/changelist.xml") ∷ lines)
    ≡ link_line (codes "index") base (codes "/changelist.xml") ∷ lines
after_other_index base lines =
    let link : List ℕ = link_line (codes "index") base (codes "/changelist.xml") in
    ap (λ l. cond (same_bytes link l) lines (link ∷ lines)) (link_apart base (codes "/resourcelist.xml"))
    ∙ ap (λ b. cond b lines (link ∷ lines))
    (same_bytes-append base (codes "/changelist.xml" ++ codes "\"/>") (codes "/resourcelist.xml" ++ codes "\"/>"))

-- the lines after the links
pub resources_read : (base : List ℕ) (at : ℕ) (records : List Record) → IsMoment at
    → AllByRecursion (λ r. read_resource base (resource_line base r) ≡ Some (listed_of r)) records
    → (next_line read_resource_md (resource_md at ∷ map (resource_line base) records ++ close_line (codes "urlset") ∷ [])
    >>= λ at. read_children (read_resource base) (codes "</urlset>") at.1 >>= λ children. Some (ResourceList at.0 children))
    ≡ Some (ResourceList at (map listed_of records))
resources_read base at records m h =
    ap (λ (o : Option ℕ). paired (map (resource_line base) records ++ close_line (codes "urlset") ∷ []) o
    >>= λ at. read_children (read_resource base) (codes "</urlset>") at.1 >>= λ children. Some (ResourceList at.0 children))
    (resource_md_read at m)
    ∙ ap (λ (o : Option (List ListedResource)). o >>= λ children. Some (ResourceList at children))
    (read_children-map (read_resource base) (resource_line base) listed_of (codes "</urlset>") records h)

pub changes_read : (base : List ℕ) (start : ℕ) (until : Option ℕ) (changes : List Change) → IsMoment start → IsEnd until
    → AllByRecursion (λ c. read_change base (change_line base c) ≡ Some c) changes
    → (next_line read_change_md (change_md start until ∷ map (change_line base) changes ++ close_line (codes "urlset") ∷ [])
    >>= λ bounds. read_children (read_change base) (codes "</urlset>") bounds.1
    >>= λ children. Some (ChangeList bounds.0.0 bounds.0.1 children))
    ≡ Some (ChangeList start until changes)
changes_read base start until changes m u h =
    ap (λ (o : Option (ℕ × Option ℕ)). paired (map (change_line base) changes ++ close_line (codes "urlset") ∷ []) o
    >>= λ bounds. read_children (read_change base) (codes "</urlset>") bounds.1
    >>= λ children. Some (ChangeList bounds.0.0 bounds.0.1 children)) (change_md_read start until m u)
    ∙ ap (λ (o : Option (List Change)). o >>= λ children. Some (ChangeList start until children))
    (read_children-map (read_change base) (change_line base) (λ c. c) (codes "</urlset>") changes h)
    ∙ ap (λ cs. Some (ChangeList start until cs)) (map-id changes)
