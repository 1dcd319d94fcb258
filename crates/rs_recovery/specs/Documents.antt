-- The documents of a source.
use Rattle.std.specs.Prelude.{◌≡◌, ℕ, List}
use Rattle.rs_disk.specs.Medium.{DiskState}
use Rattle.rs_model.specs.State.{Source}
use Rattle.rs_image.specs.declared.contents.Contents.{Contents}
use Rattle.rs_image.specs.StateOfImage.{state_in}
use Rattle.rs_lists.specs.declared.doc.Doc.{Doc}
use Rattle.rs_store.specs.Source.{Stored, Holds}
use Rattle.rs_store.specs.Views.{shown_in}
use Rattle.rs_caps.specs.DocumentTexts.{document_text}
use Rattle.rs_caps.specs.Shows.{shown_of}

-- Every document that the lists of a source show is the document of the state in these lists, whatever the disk holds.
abbrev pub DocumentsAreOfTheState : Type 0
DocumentsAreOfTheState = (image : List ℕ) (c : Contents) (doc : Doc) → document_text (shown_in c) doc ≡ document_text (shown_of (state_in image c)) doc

-- A source that holds a state shows the documents of this state.
abbrev pub HeldSourcesShow : {D : Type 0} → (D → DiskState) → Type 0
HeldSourcesShow {D} device = (source : Stored D) (s : Source) (doc : Doc) → Holds device source s
    → document_text (shown_in source.contents) doc ≡ document_text (shown_of s) doc
