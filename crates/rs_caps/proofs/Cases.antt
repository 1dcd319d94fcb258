-- The text of a document, by its kind.
use Rattle.std.proofs.Common.{◌≡◌, refl, ap, Some}
use Rattle.rs_lists.specs.declared.doc.Doc.{Doc}
use Rattle.rs_lists.specs.declared.doc.Doc.TheVariants.{Description, Capabilities, ResourceHead, ResourcePart, ChangeHead, ChangePart}
use Rattle.rs_lists.specs.Shown.{Shown}
use Rattle.rs_lists.specs.Text.{list_text}
use Rattle.rs_caps.specs.DocumentTexts.{document_text, description_text, capabilities_text}

pub description_has : (s : Shown) (doc : Doc) → doc ≡ Description → document_text s doc ≡ Some (description_text s.base)
unfolding document_text
description_has s doc e = ap (document_text s) e

pub capabilities_has : (s : Shown) (doc : Doc) → doc ≡ Capabilities → document_text s doc ≡ Some (capabilities_text s.base)
unfolding document_text
capabilities_has s doc e = ap (document_text s) e

pub list_has : (s : Shown) (doc : Doc) → (doc ≡ Description → ⊥) → (doc ≡ Capabilities → ⊥) → document_text s doc ≡ list_text s doc
unfolding document_text
list_has s Description h k = absurd (h refl)
list_has s Capabilities h k = absurd (k refl)
list_has s ResourceHead h k = refl
list_has s (ResourcePart publication part) h k = refl
list_has s ChangeHead h k = refl
list_has s (ChangePart part) h k = refl
