-- A text that reads as a document is its path, and its path reads as it.
use Rattle.std.proofs.Common.{◌≡◌, ℕ, List, Option, Some, None, IfSome, sym, ap, ◌∙◌}
use Rattle.rs_lists.specs.declared.doc.Doc.{Doc}
use Rattle.rs_caps.specs.Paths.{doc_of, path_of}
use Rattle.rs_caps.proofs.PathsRead.{doc_of-path_of, doc_of-exact}
use Rattle.rs_caps.proofs.documents.path_reading.doc_of.Goals as goal

place_of : (path : List ℕ) (r : Option Doc) → r ≡ doc_of path → IfSome r (λ doc. path ≡ path_of doc)
place_of path None e = tt
place_of path (Some doc) e = (doc_of-exact path doc (sym e)).0

pub returns-clause-place : goal.returns-clause-place
returns-clause-place c = place_of c.args.path.now c.document_at.result c.document_at.ensures

pub returns-clause-known : goal.returns-clause-known
returns-clause-known c = λ doc counts at. c.document_at.ensures ∙ ap doc_of at ∙ doc_of-path_of doc counts
