-- The paths of the documents.
use Rattle.std.specs.Prelude.{ℕ, ◌<◌, ◌^◌, nat_lt, if◌then◌else◌, List, codes, Option, Some, None}
use Rattle.rs_time.specs.ReadMoment.{same_bytes}
use Rattle.rs_lists.specs.declared.doc.Doc.{Doc}
use Rattle.rs_lists.specs.declared.doc.Doc.TheVariants.{Description, Capabilities, ResourceHead, ResourcePart, ChangeHead, ChangePart}
use Rattle.rs_lists.specs.Text.{resource_part_path, change_part_path}
use Rattle.rs_caps.specs.Cut.{◌>>=◌, ◌or_else◌, strip, cut, whole, read_number}

-- the path of a document
abbrev pub path_of : Doc → List ℕ
path_of Description = codes "/.well-known/resourcesync"
path_of Capabilities = codes "/capabilitylist.xml"
path_of ResourceHead = codes "/resourcelist.xml"
path_of (ResourcePart publication k) = resource_part_path publication k
path_of ChangeHead = codes "/changelist.xml"
path_of (ChangePart k) = change_part_path k

-- the numbers of a document have 64 bits
abbrev pub HasCounts : Doc → Type 0
HasCounts Description = Unit {0}
HasCounts Capabilities = Unit {0}
HasCounts ResourceHead = Unit {0}
HasCounts (ResourcePart publication k) = (publication < 2 ^ 64) × (k < 2 ^ 64)
HasCounts ChangeHead = Unit {0}
HasCounts (ChangePart k) = k < 2 ^ 64

-- the document, if this is its path
abbrev pub if_path_of : Doc → List ℕ → Option Doc
if_path_of doc path = if same_bytes path (path_of doc) then Some doc else None

-- a decimal number of 64 bits
unfoldable pub read_count : List ℕ → Option ℕ
read_count text = read_number text >>= λ n. if nat_lt n (2 ^ 64) then Some n else None

-- `K.xml`: the part of this number (46 is the point)
unfoldable pub last_part : (ℕ → Doc) → List ℕ → Option Doc
last_part part text = do
  k ← read_count (cut 46 text).0
  rest ← strip (codes ".xml") (cut 46 text).1
  whole (part k) rest

-- `/resourcelist/P/K.xml` (47 is the slash)
unfoldable pub resource_part : List ℕ → Option Doc
resource_part path = do
  a ← strip (codes "/resourcelist/") path
  publication ← read_count (cut 47 a).0
  b ← strip (codes "/") (cut 47 a).1
  last_part (ResourcePart publication) b

-- `/changelist/K.xml`
unfoldable pub change_part : List ℕ → Option Doc
change_part path = strip (codes "/changelist/") path >>= λ a. last_part ChangePart a

-- the document that has this path, whether it exists or not
unfoldable pub doc_of : List ℕ → Option Doc
doc_of path =
    resource_part path or_else change_part path or_else if_path_of ResourceHead path or_else if_path_of ChangeHead path
    or_else if_path_of Capabilities path or_else if_path_of Description path
