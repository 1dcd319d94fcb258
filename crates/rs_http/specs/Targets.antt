-- The place that the target of a request names.
use Rattle.std.specs.Prelude.{ℕ, nat_eq, ◌==◌, List, drop, take, codes, bytes_eq, Option, Some, None, if◌then◌else◌}
use Rattle.std.specs.List.{starts_with, position}
use Rattle.std.specs.Str.{str_eq_ignore_ascii_case}
use Rattle.rs_record.specs.Name.{is_name}
use Rattle.rs_lists.specs.declared.doc.Doc.{Doc}
use Rattle.rs_caps.specs.Paths.{doc_of}
use Rattle.rs_http.specs.declared.target.Place.{Place}
use Rattle.rs_http.specs.declared.target.Place.TheVariants.{Resource, Unlawful, Document, Publishing, Grouping, Nowhere}

-- the length of the scheme at the front of a target: `http://` or `https://`, in any case
abbrev pub scheme_length : List ℕ → ℕ
scheme_length target =
    if str_eq_ignore_ascii_case (take 7 target) (codes "http://") then 7
    else if str_eq_ignore_ascii_case (take 8 target) (codes "https://") then 8
    else 0

-- the bytes from this index on, or `/` without an index
abbrev pub from_slash : List ℕ → Option ℕ → List ℕ
from_slash rest None = codes "/"
from_slash rest (Some i) = drop i rest

-- the path after an authority: all from the first `/` (byte 47) on
abbrev pub after_authority : List ℕ → List ℕ
after_authority rest = from_slash rest (position (λ c. c == 47) rest)

-- the path of a target, which may begin with a scheme and an authority (RFC 9112, section 3.2.2)
abbrev pub path_of_target : List ℕ → List ℕ
path_of_target target = if nat_eq (scheme_length target) 0 then target else after_authority (drop (scheme_length target) target)

-- the place of a resource by its name, or `Unlawful`
abbrev pub resource_place : List ℕ → Place
resource_place name = if is_name name then Resource name else Unlawful

abbrev pub document_place : Option Doc → Place
document_place (Some doc) = Document doc
document_place None = Nowhere

-- the place that a path names
abbrev pub place_of : List ℕ → Place
place_of path =
    if starts_with nat_eq path (codes "/resource/") then resource_place (drop 10 path)
    else if bytes_eq path (codes "/publish") then Publishing
    else if bytes_eq path (codes "/group") then Grouping
    else document_place (doc_of path)
