-- The content of a document, by its kind.
use Rattle.std.proofs.Common.{◌≡◌, ◌∙◌, sym, ap, Some}
use Rattle.rs_caps.specs.Contents.{content_text}
use Rattle.rs_caps.specs.DocumentTexts.{description_text, capabilities_text}
use Rattle.rs_caps.proofs.Cases.{description_has, capabilities_has, list_has}
use Rattle.rs_caps.proofs.documents.document.Document.of.Goals.{in-Description, in-Capabilities, in_default+in_ok-of-in_default}
use Rattle.rs_caps.proofs.documents.document.Document.of.Goals as goal

pub returns-in_err-of-in_default : goal.returns-in_err-of-in_default
returns-in_err-of-in_default g c =
    c.from_residual.ensures ∙ c.in_err-of-in_default.ensures
    ∙ sym (list_has (g.V.View.shown c.args.view.now) c.args.doc c.in_default.not-Description c.in_default.not-Capabilities)

pub returns : goal.returns
returns g c =
    let s = g.V.View.shown c.args.view.now in
    elim c.match-doc.branch [
      | in-Description w ↦ ap (λ content. Some (content_text content)) w.content-is
          ∙ ap (λ base. Some (description_text base)) w.base.ensures ∙ sym (description_has s c.args.doc w.in-Description.is)
      | in-Capabilities w ↦ ap (λ content. Some (content_text content)) w.content-is
          ∙ ap (λ base. Some (capabilities_text base)) w.base-in-Capabilities.ensures ∙ sym (capabilities_has s c.args.doc w.in-Capabilities.is)
      | in_default+in_ok-of-in_default w ↦ ap (λ content. Some (content_text content)) w.content-is
          ∙ w.in_ok-of-in_default.ensures ∙ sym (list_has s c.args.doc w.in_default.not-Description w.in_default.not-Capabilities)
    ]
