-- The reading of a text: a grammar on its lines, which does not use the definition of the text.
use Rattle.std.specs.Prelude.{ℕ, if◌then◌else◌, List, [], ◌∷◌, ◌++◌, codes, Option, Some, None}
use Rattle.rs_time.specs.ReadMoment.{same_bytes}
use Rattle.rs_caps.specs.Cut.{◌>>=◌, ◌or_else◌, lines_of}
use Rattle.rs_caps.specs.Readings.{Document}
use Rattle.rs_caps.specs.Readings.Document.{ResourceList, ChangeList, ResourceListIndex, ChangeListIndex}
use Rattle.rs_caps.specs.ReadLines.{read_up, read_resource_md, read_change_md, read_resource, read_change, read_resource_entry, read_change_entry}

-- the readings of the lines, up to the line that closes the document, which is the last line
unfoldable pub read_children : {A : Type 0} → (List ℕ → Option A) → List ℕ → List (List ℕ) → Option (List A)
read_children read end [] = None
read_children read end (l ∷ []) = if same_bytes l end then Some [] else None
read_children read end (l ∷ m ∷ lines) = read l >>= λ x. read_children read end (m ∷ lines) >>= λ xs. Some (x ∷ xs)

-- the lines after the first, which is this line
abbrev pub after_line : List ℕ → List (List ℕ) → Option (List (List ℕ))
after_line l [] = None
after_line l (m ∷ lines) = if same_bytes m l then Some lines else None

-- the reading of the first line, and the lines after it
abbrev pub next_line : {A : Type 0} → (List ℕ → Option A) → List (List ℕ) → Option (A × List (List ℕ))
next_line read [] = None
next_line read (l ∷ lines) = read l >>= λ x. Some (x, lines)

-- the lines after a part's link to its index, if the first is one
abbrev pub after_index : List ℕ → List ℕ → List (List ℕ) → List (List ℕ)
after_index base path [] = []
after_index base path (l ∷ lines) =
    if same_bytes l (codes "<rs:ln rel=\"index\" href=\"" ++ base ++ path ++ codes "\"/>") then lines else l ∷ lines

-- a Resource List or a part of one, after its link up
unfoldable pub read_resource_list : List ℕ → List (List ℕ) → Option Document
read_resource_list base lines = do
  at ← next_line read_resource_md (after_index base (codes "/resourcelist.xml") lines)
  children ← read_children (read_resource base) (codes "</urlset>") at.1
  Some (ResourceList at.0 children)

-- a Change List or a part of one, after its link up
unfoldable pub read_change_list : List ℕ → List (List ℕ) → Option Document
read_change_list base lines = do
  bounds ← next_line read_change_md (after_index base (codes "/changelist.xml") lines)
  children ← read_children (read_change base) (codes "</urlset>") bounds.1
  Some (ChangeList bounds.0.0 bounds.0.1 children)

-- a Resource List Index, after its link up
unfoldable pub read_resource_index : List ℕ → List (List ℕ) → Option Document
read_resource_index base lines = do
  at ← next_line read_resource_md lines
  parts ← read_children (read_resource_entry base) (codes "</sitemapindex>") at.1
  Some (ResourceListIndex at.0 parts)

-- a Change List Index, after its link up
unfoldable pub read_change_index : List ℕ → List (List ℕ) → Option Document
read_change_index base lines = do
  bounds ← next_line read_change_md lines
  parts ← read_children (read_change_entry base) (codes "</sitemapindex>") bounds.1
  Some (ChangeListIndex bounds.0.0 bounds.0.1 parts)

-- the line that opens a document of this tag
abbrev pub opening : List ℕ → List ℕ
opening tag = codes "<" ++ tag ++ codes " xmlns=\"http://www.sitemaps.org/schemas/sitemap/0.9\" xmlns:rs=\"http://www.openarchives.org/rs/terms/\">"

-- a list, from the line that opens it
unfoldable pub read_list : List (List ℕ) → Option Document
read_list lines = do
  a ← after_line (opening (codes "urlset")) lines
  base ← next_line read_up a
  read_resource_list base.0 base.1 or_else read_change_list base.0 base.1

-- an index, from the line that opens it
unfoldable pub read_index : List (List ℕ) → Option Document
read_index lines = do
  a ← after_line (opening (codes "sitemapindex")) lines
  base ← next_line read_up a
  read_resource_index base.0 base.1 or_else read_change_index base.0 base.1

-- the list or index that a text reads as
unfoldable pub reads : List ℕ → Option Document
reads text = do
  lines ← lines_of text
  a ← after_line (codes "<?xml version=\"1.0\" encoding=\"UTF-8\"?>") lines
  read_list a or_else read_index a
