-- The texts of the lists and their indexes: Sitemap 0.9 with the elements `rs:ln` and `rs:md` of ResourceSync (Z39.99).
use Rattle.std.specs.Prelude.{ℕ, suc, zero, ◌+◌, ◌-◌, ◌*◌, Bool, ◌&&◌, ◌==◌, nat_lt, nat_le, if◌then◌else◌, List, [], ◌∷◌, ◌++◌, length, take, map, codes, Option, Some, None}
use Rattle.std.specs.List.{flat_map, concat}
use Rattle.std.specs.Fmt.{decimal}
use Rattle.rs_time.specs.Moment.{moment_text}
use Rattle.rs_fixity.specs.HashText.{hash_text_of}
use Rattle.rs_record.specs.Base.{uri}
use Rattle.rs_record.specs.Format.{facts_in}
use Rattle.rs_record.specs.Changes.{last_moment}
use Rattle.rs_record.specs.declared.facts.Facts.{Facts}
use Rattle.rs_record.specs.declared.record.Record.{Record}
use Rattle.rs_record.specs.declared.change.Change.{Change}
use Rattle.rs_record.specs.declared.change.What.{What}
use Rattle.rs_record.specs.declared.change.What.TheVariants.{Created, Updated, Deleted}
use Rattle.rs_lists.specs.declared.doc.Doc.{Doc}
use Rattle.rs_lists.specs.declared.doc.Doc.TheVariants.{Description, Capabilities, ResourceHead, ResourcePart, ChangeHead, ChangePart}
use Rattle.rs_lists.specs.Chunks.{part_at}
use Rattle.rs_lists.specs.Escape.{escape}
use Rattle.rs_lists.specs.Shown.{Shown, resource_parts_of, change_parts_of}

-- a line ends with a line feed
abbrev pub line : List ℕ → List ℕ
line l = l ++ 10 ∷ []

-- lines one after another
abbrev pub joined : List (List ℕ) → List ℕ
joined lines = flat_map line lines

-- the XML declaration
abbrev pub xml_line : List ℕ
xml_line = codes "<?xml version=\"1.0\" encoding=\"UTF-8\"?>"

-- the line that opens a list or an index
abbrev pub open_line : List ℕ → List ℕ
open_line tag =
    concat (codes "<" ∷ tag ∷ codes " xmlns=\"http://www.sitemaps.org/schemas/sitemap/0.9\" xmlns:rs=\"http://www.openarchives.org/rs/terms/\">" ∷ [])

-- the line that closes a list or an index
abbrev pub close_line : List ℕ → List ℕ
close_line tag = concat (codes "</" ∷ tag ∷ codes ">" ∷ [])

-- the link of this relation to a path of the source
abbrev pub link_line : List ℕ → List ℕ → List ℕ → List ℕ
link_line relation base path = concat (codes "<rs:ln rel=\"" ∷ relation ∷ codes "\" href=\"" ∷ base ∷ path ∷ codes "\"/>" ∷ [])

-- the link to the Capability List
abbrev pub up_line : List ℕ → List ℕ
up_line base = link_line (codes "up") base (codes "/capabilitylist.xml")

-- a whole document: a tag, its links, its `rs:md` and its children
abbrev pub document : List ℕ → List (List ℕ) → List ℕ → List (List ℕ) → List ℕ
document tag links md children = joined (xml_line ∷ open_line tag ∷ links ++ md ∷ children ++ close_line tag ∷ [])

-- the `rs:md` of a Resource List: the moment of the publication
abbrev pub resource_md : ℕ → List ℕ
resource_md at = concat (codes "<rs:md capability=\"resourcelist\" at=\"" ∷ moment_text at ∷ codes "\"/>" ∷ [])

-- ` until="T"` of a closed part; an open part has no `until`
abbrev pub until_parts : Option ℕ → List (List ℕ)
until_parts None = []
until_parts (Some until) = codes " until=\"" ∷ moment_text until ∷ codes "\"" ∷ []

-- the `rs:md` of a Change List: its `from` and its `until`
abbrev pub change_md : ℕ → Option ℕ → List ℕ
change_md start until =
    concat (codes "<rs:md capability=\"changelist\" from=\"" ∷ moment_text start ∷ codes "\"" ∷ until_parts until ++ codes "/>" ∷ [])

-- the parts of the facts of a body as attributes
abbrev pub facts_parts : Facts → List (List ℕ)
facts_parts f =
    codes " hash=\"" ∷ hash_text_of f.digests ∷ codes "\" length=\"" ∷ decimal f.length ∷ codes "\" type=\"" ∷ escape f.kind ∷ codes "\"" ∷ []

-- the start of an entry, with its location
abbrev pub location_parts : List ℕ → List ℕ → List (List ℕ)
location_parts base name = codes "<url><loc>" ∷ escape (uri base name) ∷ codes "</loc>" ∷ []

-- the entry of a resource
abbrev pub resource_line : List ℕ → Record → List ℕ
resource_line base r =
    concat (location_parts base r.name ++ (codes "<lastmod>" ∷ moment_text r.moment ∷ codes "</lastmod><rs:md" ∷ []) ++ facts_parts (facts_in r) ++ codes "/></url>" ∷ [])

-- the value of the attribute `change`
abbrev pub what_text : What → List ℕ
what_text Created = codes "created"
what_text Updated = codes "updated"
what_text Deleted = codes "deleted"

-- the moment of a change as `lastmod`, if there is a body
abbrev pub lastmod_parts : Option Facts → ℕ → List (List ℕ)
lastmod_parts None moment = []
lastmod_parts (Some f) moment = codes "<lastmod>" ∷ moment_text moment ∷ codes "</lastmod>" ∷ []

-- the attributes of a body, if there is one
abbrev pub some_facts_parts : Option Facts → List (List ℕ)
some_facts_parts None = []
some_facts_parts (Some f) = facts_parts f

-- the entry of a change
abbrev pub change_line : List ℕ → Change → List ℕ
change_line base c =
    concat (location_parts base c.name ++ lastmod_parts c.facts c.moment
    ++ (codes "<rs:md change=\"" ∷ what_text c.what ∷ codes "\" datetime=\"" ∷ moment_text c.moment ∷ codes "\"" ∷ [])
    ++ some_facts_parts c.facts ++ codes "/></url>" ∷ [])

-- `n` numbers from `first` on
abbrev pub numbers_from : ℕ → ℕ → List ℕ
numbers_from first zero = []
numbers_from first (suc n) = first ∷ numbers_from (first + 1) n

-- the path of part k of the Resource List of a publication
abbrev pub resource_part_path : ℕ → ℕ → List ℕ
resource_part_path number k = codes "/resourcelist/" ++ decimal number ++ codes "/" ++ decimal k ++ codes ".xml"

-- the path of the part of the Change List that has this number
abbrev pub change_part_path : ℕ → List ℕ
change_part_path k = codes "/changelist/" ++ decimal k ++ codes ".xml"

-- the `from` of part k: the moment of the last change before the part
abbrev pub from_of : Shown → ℕ → ℕ
from_of s k = last_moment s.begin (take (k * s.limit) s.changes)

-- the `until` of part k, where it is full: the moment of its last change
abbrev pub until_of : Shown → ℕ → Option ℕ
until_of s k = if nat_le ((k + 1) * s.limit) (length s.changes) then Some (from_of s (k + 1)) else None

-- the entry of part k in the index of the Resource List
abbrev pub resource_entry : Shown → ℕ → List ℕ
resource_entry s k =
    concat (codes "<sitemap><loc>" ∷ (s.base ++ resource_part_path s.number k) ∷ codes "</loc><rs:md at=\"" ∷ moment_text s.at ∷ codes "\"/></sitemap>" ∷ [])

-- the entry of part k of the kept changes in the index of the Change List
abbrev pub change_entry : Shown → ℕ → List ℕ
change_entry s k =
    concat (codes "<sitemap><loc>" ∷ (s.base ++ change_part_path (s.first + k)) ∷ codes "</loc><rs:md from=\"" ∷ moment_text (from_of s k) ∷ codes "\""
    ∷ until_parts (until_of s k) ++ codes "/></sitemap>" ∷ [])

-- a list of these records
abbrev pub resource_list : Shown → List (List ℕ) → List Record → List ℕ
resource_list s links records = document (codes "urlset") links (resource_md s.at) (map (resource_line s.base) records)

-- the index of the Resource List
abbrev pub resource_index : Shown → List ℕ
resource_index s =
    document (codes "sitemapindex") (up_line s.base ∷ []) (resource_md s.at) (map (resource_entry s) (numbers_from 0 (resource_parts_of s)))

-- a list of these changes
abbrev pub change_list : Shown → List (List ℕ) → ℕ → Option ℕ → List Change → List ℕ
change_list s links start until changes = document (codes "urlset") links (change_md start until) (map (change_line s.base) changes)

-- the index of the Change List
abbrev pub change_index : Shown → List ℕ
change_index s =
    document (codes "sitemapindex") (up_line s.base ∷ []) (change_md s.begin None) (map (change_entry s) (numbers_from 0 (change_parts_of s)))

-- the links of a part whose index has this path
abbrev pub part_links : Shown → List ℕ → List (List ℕ)
part_links s path = up_line s.base ∷ link_line (codes "index") s.base path ∷ []

-- the text of the part of the changes that is number k of those kept
abbrev pub change_part_text : Shown → ℕ → List ℕ
change_part_text s k = change_list s (part_links s (codes "/changelist.xml")) (from_of s k) (until_of s k) (part_at k s.limit s.changes)

-- a part exists if the list has at least two parts, and one of them has this number
abbrev pub is_part : ℕ → ℕ → ℕ → Bool
is_part parts first k = nat_lt 1 parts && nat_le first k && nat_lt k (first + parts)

-- the text of a list, an index or a part, if it exists
unfoldable pub list_text : Shown → Doc → Option (List ℕ)
list_text s ResourceHead =
    Some (if nat_le (resource_parts_of s) 1 then resource_list s (up_line s.base ∷ []) s.published else resource_index s)
list_text s (ResourcePart publication k) =
    if (publication == s.number) && is_part (resource_parts_of s) 0 k
    then Some (resource_list s (part_links s (codes "/resourcelist.xml")) (part_at k s.limit s.published))
    else None
list_text s ChangeHead =
    Some (if nat_le (change_parts_of s) 1 then change_list s (up_line s.base ∷ []) s.begin None s.changes else change_index s)
list_text s (ChangePart number) =
    if is_part (change_parts_of s) s.first number then Some (change_part_text s (number - s.first)) else None
list_text s Description = None
list_text s Capabilities = None
