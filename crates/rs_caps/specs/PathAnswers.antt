-- The answers at the paths of documents and of resources.
use Rattle.std.specs.Prelude.{◌≡◌, ℕ, List, ◌++◌, codes}
use Rattle.rs_model.specs.State.{Source, body_of}
use Rattle.rs_lists.specs.declared.doc.Doc.{Doc}
use Rattle.rs_caps.specs.Answer.{answer}
use Rattle.rs_caps.specs.DocumentTexts.{document_text}
use Rattle.rs_caps.specs.Paths.{path_of, HasCounts}
use Rattle.rs_caps.specs.Shows.{shown_of}

-- the path of the resource of this name
abbrev pub body_path : List ℕ → List ℕ
body_path name = codes "/resource/" ++ name

-- The answer at the path of a document is its text, if it exists.
abbrev pub DocumentsAreAnswered : Type 0
DocumentsAreAnswered = (s : Source) (doc : Doc) → HasCounts doc → answer s (path_of doc) ≡ document_text (shown_of s) doc

-- The answer at the path of a resource is its bytes, if it is held.
abbrev pub BodiesAreAnswered : Type 0
BodiesAreAnswered = (s : Source) (name : List ℕ) → answer s (body_path name) ≡ body_of name s
