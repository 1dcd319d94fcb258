-- The content of a document, and its text.
use Rattle.std.specs.Prelude.{ℕ, List}
use Rattle.rs_caps.specs.declared.documents.document.Content.{Content}
use Rattle.rs_caps.specs.declared.documents.document.Content.TheVariants.{Description, Capabilities, List as Listed}
use Rattle.rs_caps.specs.DocumentTexts.{description_text, capabilities_text}

-- the text of a document: for a list, contracts see its text
abbrev pub content_text : {V : Type 0} → Content V → List ℕ
content_text (Description base) = description_text base.now
content_text (Capabilities base) = capabilities_text base.now
content_text (Listed text) = text
