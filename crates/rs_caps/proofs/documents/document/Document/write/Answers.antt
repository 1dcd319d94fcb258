-- The pieces of the two documents that are no list make their texts.
use Rattle.std.proofs.Common.{◌≡◌, List, ℕ, sym, ap, ◌∙◌, subst, OnOk, OnErr}
use Rattle.rs_io.specs.Watch.{FailedWithin, Wrote}
use Rattle.rs_lists.specs.Piece.{pieces_text}
use Rattle.rs_caps.specs.Contents.{content_text}
use Rattle.rs_caps.proofs.documents.document.Document.write.Goals as goal

pub returns-in-Description-clause-written : goal.returns-in-Description-clause-written
returns-in-Description-clause-written g c =
    let P : List ℕ → Type 0 = λ text. OnOk c.put_pieces.result (Wrote g.W.Write.contents c.args.out.now c.put_pieces.new.out text) in
    subst P (c.description.ensures.text ∙ ap content_text (sym c.in-Description.is) ∙ c.self.view_is) c.put_pieces.ensures.written

pub returns-in-Description-clause-within : goal.returns-in-Description-clause-within
returns-in-Description-clause-within g c =
    let P : List ℕ → Type 0 = λ text. OnErr c.put_pieces.result (FailedWithin g.W.Write.contents c.args.out.now c.put_pieces.new.out text) in
    subst P (c.description.ensures.text ∙ ap content_text (sym c.in-Description.is) ∙ c.self.view_is) c.put_pieces.ensures.within

pub returns-in-Capabilities-clause-written : goal.returns-in-Capabilities-clause-written
returns-in-Capabilities-clause-written g c =
    let P : List ℕ → Type 0 = λ text. OnOk c.put_pieces-in-Capabilities.result (Wrote g.W.Write.contents c.args.out.now c.put_pieces-in-Capabilities.new.out text) in
    subst P (c.capabilities.ensures.text ∙ ap content_text (sym c.in-Capabilities.is) ∙ c.self.view_is) c.put_pieces-in-Capabilities.ensures.written

pub returns-in-Capabilities-clause-within : goal.returns-in-Capabilities-clause-within
returns-in-Capabilities-clause-within g c =
    let P : List ℕ → Type 0 = λ text. OnErr c.put_pieces-in-Capabilities.result (FailedWithin g.W.Write.contents c.args.out.now c.put_pieces-in-Capabilities.new.out text) in
    subst P (c.capabilities.ensures.text ∙ ap content_text (sym c.in-Capabilities.is) ∙ c.self.view_is) c.put_pieces-in-Capabilities.ensures.within
