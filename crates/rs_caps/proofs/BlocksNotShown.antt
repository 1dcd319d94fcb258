-- The documents do not depend on the blocks of the published records.
use Rattle.std.proofs.Common.{◌≡◌, ℕ, List, [], ◌∷◌, length, map, refl, sym, ap, ◌∙◌, Some, None, nat_le}
use Rattle.std.specs.Prelude.{codes, ◌==◌, ◌&&◌, if◌then◌else◌}
use Rattle.std.proofs.lemmas.List.{length-map, take-map, drop-map}
use Rattle.rs_record.specs.declared.record.Record.{Record}
use Rattle.rs_model.specs.Listed.{record_of, entry_of}
use Rattle.rs_lists.specs.declared.doc.Doc.{Doc}
use Rattle.rs_lists.specs.declared.doc.Doc.TheVariants.{Description, Capabilities, ResourceHead, ResourcePart, ChangeHead, ChangePart}
use Rattle.rs_lists.specs.Chunks.{parts_of, part_at}
use Rattle.rs_lists.specs.Shown.{Shown}
use Rattle.rs_lists.specs.Text.{list_text, document, resource_line, resource_md, resource_entry, numbers_from, up_line, part_links, is_part}
use Rattle.rs_caps.specs.DocumentTexts.{document_text}
use Rattle.rs_caps.specs.Statements.{IsShownAlike}

-- the records with no blocks, and a view of them
abbrev bare : List Record → List Record
bare records = map record_of (map entry_of records)

abbrev bare_view : Shown → Shown
bare_view s = record s { published = bare s.published }

same_count : (records : List Record) → length (bare records) ≡ length records
same_count records = simp length-map

same_lines : (base : List ℕ) (records : List Record) → map (resource_line base) (bare records) ≡ map (resource_line base) records
same_lines base [] = refl
same_lines base (r ∷ records) = ap (λ lines. resource_line base r ∷ lines) (same_lines base records)

part_bare : (k limit : ℕ) (records : List Record) → part_at k limit (bare records) ≡ bare (part_at k limit records)
part_bare k limit records = simp (drop-map, take-map)

-- the Resource List or its index, by the number of its records and their lines
abbrev head_by : Shown → ℕ → List (List ℕ) → List ℕ
head_by s count lines =
    if nat_le (parts_of count s.limit) 1 then document (codes "urlset") (up_line s.base ∷ []) (resource_md s.at) lines
    else document (codes "sitemapindex") (up_line s.base ∷ []) (resource_md s.at) (map (resource_entry s) (numbers_from 0 (parts_of count s.limit)))

same_head : (s : Shown) → list_text (bare_view s) ResourceHead ≡ list_text s ResourceHead
unfolding list_text
same_head s =
    let lines = same_lines s.base s.published in
    let count = same_count s.published in
    λ i. Some (head_by s (count i) (lines i))

same_part : (s : Shown) (publication k : ℕ) → list_text (bare_view s) (ResourcePart publication k) ≡ list_text s (ResourcePart publication k)
unfolding list_text
same_part s publication k =
    let lines = ap (map (resource_line s.base)) (part_bare k s.limit s.published) ∙ same_lines s.base (part_at k s.limit s.published) in
    let count = same_count s.published in
    λ i.
    if (publication == s.number) && is_part (parts_of (count i) s.limit) 0 k
    then Some (document (codes "urlset") (part_links s (codes "/resourcelist.xml")) (resource_md s.at) (lines i))
    else None

same_changes : (s : Shown) → list_text (bare_view s) ChangeHead ≡ list_text s ChangeHead
unfolding list_text
same_changes s = refl

same_change_part : (s : Shown) (k : ℕ) → list_text (bare_view s) (ChangePart k) ≡ list_text s (ChangePart k)
unfolding list_text
same_change_part s k = refl

pub blocks_not_shown : (s : Shown) (doc : Doc)
    → document_text (record s { published = map record_of (map entry_of s.published) }) doc ≡ document_text s doc
unfolding document_text
blocks_not_shown s Description = refl
blocks_not_shown s Capabilities = refl
blocks_not_shown s ResourceHead = same_head s
blocks_not_shown s (ResourcePart publication k) = same_part s publication k
blocks_not_shown s ChangeHead = same_changes s
blocks_not_shown s (ChangePart k) = same_change_part s k

same_bare : (s t : Shown) → IsShownAlike s t → bare_view s ≡ bare_view t
same_bare s t h =
    λ i.
    record {
      base = h.base i;
      limit = h.limit i;
      start = h.start i;
      number = h.number i;
      at = h.at i;
      published = map record_of (h.published i);
      changes = h.changes i;
      first = h.first i;
      begin = h.begin i;
    }

pub alike_views : (s t : Shown) (doc : Doc) → IsShownAlike s t → document_text s doc ≡ document_text t doc
alike_views s t doc h = sym (blocks_not_shown s doc) ∙ ap (λ v. document_text v doc) (same_bare s t h) ∙ blocks_not_shown t doc
