-- The answers at the paths of documents and of resources.
use Rattle.std.proofs.Common.{◌≡◌, ℕ, List, refl, ap, ◌∙◌, get_or, arith, Option, Some, None}
use Rattle.std.specs.Prelude.{codes}
use Rattle.rs_model.specs.State.{body_of}
use Rattle.rs_lists.specs.declared.doc.Doc.{Doc}
use Rattle.rs_lists.specs.declared.doc.Doc.TheVariants.{Description, Capabilities, ResourceHead, ResourcePart, ChangeHead, ChangePart}
use Rattle.rs_caps.specs.Cut.{◌>>=◌, strip}
use Rattle.rs_caps.specs.Answer.{document_or_body}
use Rattle.rs_caps.specs.Paths.{path_of, doc_of}
use Rattle.rs_caps.specs.PathAnswers.{body_path, DocumentsAreAnswered, BodiesAreAnswered}
use Rattle.rs_caps.proofs.PathsRead.{doc_of-path_of, doc_of-exact}

pub documents_answered : DocumentsAreAnswered
documents_answered s doc counts = ap (document_or_body s (path_of doc)) (doc_of-path_of doc counts)

-- no document has the path of a resource: its second byte is no `r`, or its tenth no slash
apart : (name : List ℕ) (doc : Doc) → body_path name ≡ path_of doc → ⊥
apart name Description is = let byte : 114 ≡ 46 = ap (λ (l : List ℕ). get_or l 1 0) is in omega (arith, byte)
apart name Capabilities is = let byte : 114 ≡ 99 = ap (λ (l : List ℕ). get_or l 1 0) is in omega (arith, byte)
apart name ResourceHead is = let byte : 47 ≡ 108 = ap (λ (l : List ℕ). get_or l 9 0) is in omega (arith, byte)
apart name (ResourcePart publication k) is = let byte : 47 ≡ 108 = ap (λ (l : List ℕ). get_or l 9 0) is in omega (arith, byte)
apart name ChangeHead is = let byte : 114 ≡ 99 = ap (λ (l : List ℕ). get_or l 1 0) is in omega (arith, byte)
apart name (ChangePart k) is = let byte : 114 ≡ 99 = ap (λ (l : List ℕ). get_or l 1 0) is in omega (arith, byte)

no_document : (name : List ℕ) (found : Option Doc) → doc_of (body_path name) ≡ found → doc_of (body_path name) ≡ None
no_document name None is = is
no_document name (Some doc) is = absurd (apart name doc (doc_of-exact (body_path name) doc is).0)

after_prefix : (name : List ℕ) → strip (codes "/resource/") (body_path name) ≡ Some name
unfolding strip
after_prefix name = refl

pub bodies_answered : BodiesAreAnswered
bodies_answered s name =
    ap (document_or_body s (body_path name)) (no_document name (doc_of (body_path name)) refl)
    ∙ ap (λ (found : Option (List ℕ)). found >>= λ n. body_of n s) (after_prefix name)
