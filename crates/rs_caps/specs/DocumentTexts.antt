-- The text at every path: of the Source Description, the Capability List and the lists.
use Rattle.std.specs.Prelude.{ℕ, List, [], ◌∷◌, codes, Option, Some}
use Rattle.std.specs.List.{concat}
use Rattle.rs_lists.specs.declared.doc.Doc.{Doc}
use Rattle.rs_lists.specs.declared.doc.Doc.TheVariants.{Description, Capabilities, ResourceHead, ResourcePart, ChangeHead, ChangePart}
use Rattle.rs_lists.specs.Shown.{Shown}
use Rattle.rs_lists.specs.Text.{document, link_line, list_text}

-- the capability that the document declares
abbrev pub capability_md : List ℕ → List ℕ
capability_md capability = concat (codes "<rs:md capability=\"" ∷ capability ∷ codes "\"/>" ∷ [])

-- a document of this capability, and its URI
abbrev pub capability_line : List ℕ → List ℕ → List ℕ → List ℕ
capability_line base path capability =
    concat (codes "<url><loc>" ∷ base ∷ path ∷ codes "</loc><rs:md capability=\"" ∷ capability ∷ codes "\"/></url>" ∷ [])

-- the Source Description, which names the Capability List
abbrev pub description_text : List ℕ → List ℕ
description_text base =
    document (codes "urlset") [] (capability_md (codes "description"))
    (capability_line base (codes "/capabilitylist.xml") (codes "capabilitylist") ∷ [])

-- the Capability List, which names the Resource List and the Change List
abbrev pub capabilities_text : List ℕ → List ℕ
capabilities_text base =
    document (codes "urlset") (link_line (codes "up") base (codes "/.well-known/resourcesync") ∷ []) (capability_md (codes "capabilitylist"))
    (capability_line base (codes "/resourcelist.xml") (codes "resourcelist") ∷ capability_line base (codes "/changelist.xml") (codes "changelist") ∷ [])

-- the text of a document, if it exists
unfoldable pub document_text : Shown → Doc → Option (List ℕ)
document_text s Description = Some (description_text s.base)
document_text s Capabilities = Some (capabilities_text s.base)
document_text s ResourceHead = list_text s ResourceHead
document_text s (ResourcePart publication k) = list_text s (ResourcePart publication k)
document_text s ChangeHead = list_text s ChangeHead
document_text s (ChangePart k) = list_text s (ChangePart k)
