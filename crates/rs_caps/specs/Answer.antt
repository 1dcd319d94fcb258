-- The answers of a source at paths, and the readings of its lists.
use Rattle.std.specs.Prelude.{ℕ, ◌+◌, ◌-◌, nat_le, if◌then◌else◌, List, map, codes, Option, Some, None}
use Rattle.rs_record.specs.Format.{facts_in}
use Rattle.rs_record.specs.declared.record.Record.{Record}
use Rattle.rs_model.specs.State.{Source, body_of}
use Rattle.rs_lists.specs.declared.doc.Doc.{Doc}
use Rattle.rs_lists.specs.declared.doc.Doc.TheVariants.{Description, Capabilities, ResourceHead, ResourcePart, ChangeHead, ChangePart}
use Rattle.rs_lists.specs.Chunks.{part_at}
use Rattle.rs_lists.specs.Shown.{Shown, resource_parts_of, change_parts_of}
use Rattle.rs_lists.specs.Text.{numbers_from, from_of, until_of, resource_part_path, change_part_path}
use Rattle.rs_caps.specs.Cut.{◌>>=◌, strip}
use Rattle.rs_caps.specs.Paths.{doc_of}
use Rattle.rs_caps.specs.Shows.{shown_of}
use Rattle.rs_caps.specs.DocumentTexts.{document_text}
use Rattle.rs_caps.specs.Readings.{ListedResource, ResourceEntry, ChangeEntry, Document}
use Rattle.rs_caps.specs.Readings.Document.{ResourceList, ChangeList, ResourceListIndex, ChangeListIndex}

-- the bytes of the resource that has this path, where it is held
abbrev pub body_at : Source → List ℕ → Option (List ℕ)
body_at s path = strip (codes "/resource/") path >>= λ name. body_of name s

-- the bytes at a path that has this document, or none
abbrev pub document_or_body : Source → List ℕ → Option Doc → Option (List ℕ)
document_or_body s path None = body_at s path
document_or_body s path (Some doc) = document_text (shown_of s) doc

-- the bytes at a path: of a document or of a resource
abbrev pub answer : Source → List ℕ → Option (List ℕ)
answer s path = document_or_body s path (doc_of path)

-- a record of a publication, as a list has it
abbrev pub listed_of : Record → ListedResource
listed_of r = record { name = r.name; facts = facts_in r; moment = r.moment }

-- part k of the Resource List, as its index has it
abbrev pub resource_entry_of : Shown → ℕ → ResourceEntry
resource_entry_of s k = record { path = resource_part_path s.number k; at = s.at }

-- kept part k of the Change List, as its index has it
abbrev pub change_entry_of : Shown → ℕ → ChangeEntry
change_entry_of s k = record { path = change_part_path (s.first + k); start = from_of s k; until = until_of s k }

-- kept part k of the Change List
abbrev pub change_part_of : Shown → ℕ → Document
change_part_of s k = ChangeList (from_of s k) (until_of s k) (part_at k s.limit s.changes)

-- the Resource List, or its index where it has several parts
abbrev pub resource_head_of : Shown → Document
resource_head_of s =
    if nat_le (resource_parts_of s) 1 then ResourceList s.at (map listed_of s.published)
    else ResourceListIndex s.at (map (resource_entry_of s) (numbers_from 0 (resource_parts_of s)))

-- the Change List, or its index where it has several parts; neither has an end
abbrev pub change_head_of : Shown → Document
change_head_of s =
    if nat_le (change_parts_of s) 1 then ChangeList s.begin None s.changes
    else ChangeListIndex s.begin None (map (change_entry_of s) (numbers_from 0 (change_parts_of s)))

-- the reading of the text of a list, a part or an index
abbrev pub reading_of : Shown → Doc → Option Document
reading_of s ResourceHead = Some (resource_head_of s)
reading_of s (ResourcePart publication k) = Some (ResourceList s.at (map listed_of (part_at k s.limit s.published)))
reading_of s ChangeHead = Some (change_head_of s)
reading_of s (ChangePart number) = Some (change_part_of s (number - s.first))
reading_of s Description = None
reading_of s Capabilities = None
