-- The reading of one line of a list or an index.
use Rattle.std.specs.Prelude.{ℕ, Bool, true, false, ◌==◌, if◌then◌else◌, List, [], ◌∷◌, ◌++◌, codes, Option, Some, None}
use Rattle.rs_time.specs.ReadMoment.{read_moment, same_bytes}
use Rattle.rs_fixity.specs.ReadHash.{read_hash}
use Rattle.rs_record.specs.Base.{is_base}
use Rattle.rs_record.specs.declared.facts.Facts.{Facts}
use Rattle.rs_record.specs.declared.change.Change.{Change}
use Rattle.rs_record.specs.Changes.{bound, deleted}
use Rattle.rs_lists.specs.declared.doc.Doc.{Doc}
use Rattle.rs_caps.specs.Cut.{◌>>=◌, ◌or_else◌, whole, strip, value_after, ending, unescape, read_number}
use Rattle.rs_caps.specs.Paths.{doc_of}
use Rattle.rs_caps.specs.Readings.{ListedResource, ResourceEntry, ChangeEntry}

-- the name of the resource that has this URI, below the base
abbrev pub read_name : List ℕ → List ℕ → Option (List ℕ)
read_name base text = unescape text >>= λ uri. strip (base ++ codes "/resource/") uri

-- the attributes of a body, and the text after them
unfoldable pub read_facts : List ℕ → Option (Facts × List ℕ)
read_facts text = do
  digests ← value_after (codes " hash=\"") 34 read_hash text
  length ← value_after (codes "\" length=\"") 34 read_number digests.1
  kind ← value_after (codes "\" type=\"") 34 unescape length.1
  rest ← strip (codes "\"") kind.1
  Some (record { kind = kind.0; length = length.0; digests = digests.0 }, rest)

-- a resource of a Resource List
unfoldable pub read_resource : List ℕ → List ℕ → Option ListedResource
read_resource base text = do
  name ← value_after (codes "<url><loc>") 60 (read_name base) text
  moment ← value_after (codes "</loc><lastmod>") 60 read_moment name.1
  rest ← strip (codes "</lastmod><rs:md") moment.1
  facts ← read_facts rest
  ending (codes "/></url>") (record { name = name.0; facts = facts.0; moment = moment.0 }) facts.1

-- the word of a change that binds a name: was it bound before?
abbrev pub change_word : Bool → List ℕ
change_word again = if again then codes "updated" else codes "created"

-- a change with facts, under its word: its two moments are the same
unfoldable pub read_bound : List ℕ → Bool → List ℕ → Option Change
read_bound base again text = do
  name ← value_after (codes "<url><loc>") 60 (read_name base) text
  first ← value_after (codes "</loc><lastmod>") 60 read_moment name.1
  moment ← value_after (codes "</lastmod><rs:md change=\"" ++ change_word again ++ codes "\" datetime=\"") 34 read_moment first.1
  rest ← strip (codes "\"") moment.1
  facts ← read_facts rest
  end ← strip (codes "/></url>") facts.1
  if first.0 == moment.0 then whole (bound name.0 again moment.0 facts.0) end else None

-- a deletion, which has no facts
unfoldable pub read_deleted : List ℕ → List ℕ → Option Change
read_deleted base text = do
  name ← value_after (codes "<url><loc>") 60 (read_name base) text
  moment ← value_after (codes "</loc><rs:md change=\"deleted\" datetime=\"") 34 read_moment name.1
  ending (codes "\"/></url>") (deleted name.0 moment.0) moment.1

-- a change of a Change List
abbrev pub read_change : List ℕ → List ℕ → Option Change
read_change base text = read_bound base false text or_else read_bound base true text or_else read_deleted base text

-- the `until` of a closed part, and the text after it
unfoldable pub read_end : List ℕ → Option (Option ℕ × List ℕ)
read_end text = do
  until ← value_after (codes " until=\"") 34 read_moment text
  rest ← strip (codes "\"") until.1
  Some (Some until.0, rest)

-- the `until`, if there is one, and the text after it
abbrev pub read_until : List ℕ → Option (Option ℕ × List ℕ)
read_until text = read_end text or_else Some (None, text)

-- the path, where it is one of a document
abbrev pub if_known : List ℕ → Option Doc → Option (List ℕ)
if_known path None = None
if_known path (Some doc) = Some path

-- the path of the document that has this URI, below the base
abbrev pub read_path : List ℕ → List ℕ → Option (List ℕ)
read_path base text = strip base text >>= λ path. if_known path (doc_of path)

-- a part that a Resource List Index names
unfoldable pub read_resource_entry : List ℕ → List ℕ → Option ResourceEntry
read_resource_entry base text = do
  path ← value_after (codes "<sitemap><loc>") 60 (read_path base) text
  at ← value_after (codes "</loc><rs:md at=\"") 34 read_moment path.1
  ending (codes "\"/></sitemap>") (record { path = path.0; at = at.0 }) at.1

-- a part that a Change List Index names
unfoldable pub read_change_entry : List ℕ → List ℕ → Option ChangeEntry
read_change_entry base text = do
  path ← value_after (codes "<sitemap><loc>") 60 (read_path base) text
  start ← value_after (codes "</loc><rs:md from=\"") 34 read_moment path.1
  rest ← strip (codes "\"") start.1
  until ← read_until rest
  ending (codes "/></sitemap>") (record { path = path.0; start = start.0; until = until.0 }) until.1

-- the bytes before these, where the text ends with them
unfoldable pub before_end : List ℕ → List ℕ → Option (List ℕ)
before_end end [] = None
before_end end (c ∷ text) = if same_bytes (c ∷ text) end then Some [] else (before_end end text >>= λ rest. Some (c ∷ rest))

-- the lawful base of this URI of a Capability List
abbrev pub read_base : List ℕ → Option (List ℕ)
read_base text = before_end (codes "/capabilitylist.xml") text >>= λ base. if is_base base then Some base else None

-- the base, by the link up to the Capability List
unfoldable pub read_up : List ℕ → Option (List ℕ)
read_up text = do
  base ← value_after (codes "<rs:ln rel=\"up\" href=\"") 34 read_base text
  ending (codes "\"/>") base.0 base.1

-- the `at` of a Resource List or its index
unfoldable pub read_resource_md : List ℕ → Option ℕ
read_resource_md text = do
  at ← value_after (codes "<rs:md capability=\"resourcelist\" at=\"") 34 read_moment text
  ending (codes "\"/>") at.0 at.1

-- the `from` and the `until`, if there is one, of a Change List or its index
unfoldable pub read_change_md : List ℕ → Option (ℕ × Option ℕ)
read_change_md text = do
  start ← value_after (codes "<rs:md capability=\"changelist\" from=\"") 34 read_moment text
  rest ← strip (codes "\"") start.1
  until ← read_until rest
  ending (codes "/>") (start.0, until.0) until.1
