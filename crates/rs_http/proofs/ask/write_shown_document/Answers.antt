-- The head, and the text of the document, which a HEAD leaves out.
use Rattle.std.proofs.Common.{◌≡◌, ◌∙◌, ◌++◌, [], ap, sym, refl, List, ℕ, if◌then◌else◌, Bool, subst, codes}
use Rattle.rs_io.specs.Watch.{Wrote}
use Rattle.rs_http.specs.declared.status.StatusCode.TheVariants as statuses
use Rattle.rs_http.proofs.FromBelow.{wrote_then, failed_first, failed_last}
use Rattle.rs_io.specs.declared.fault.StreamFault.TheVariants.{Write}
use Rattle.rs_http.specs.Responses.{content_lines, sent_body, framed}
use Rattle.rs_http.proofs.Asking.{document_head}
use Rattle.rs_http.proofs.Endings.{passes}
use Rattle.rs_http.proofs.ask.write_shown_document.Goals as goal

pub returns-in_err-write_document_head : goal.returns-in_err-write_document_head
returns-in_err-write_document_head g c =
    let text : List ℕ = c.args.document.now in
    let within = failed_first g.W.Write.contents c.args.writer.now c.write_document_head.new.writer _ _ _ c.in_err-write_document_head.ensures.written
    (document_head c.args.framing text c.len.result (sym c.len.ensures)) in
    rw (passes c.from_residual.result Write c.from_residual.ensures) (tt, within, refl)

pub returns : goal.returns
returns g c =
    let text : List ℕ = c.args.document.now in
    let head = framed c.args.framing statuses.Ok (content_lines (codes "application/xml") c.len.result) [] in
    let all : text ≡ sent_body c.args.framing text = sym (ap (λ (b : Bool). if b then [] else text) c.if-framing.false) in
    let P : List ℕ → Type 0 = λ l. Wrote g.W.Write.contents c.args.writer.now c.write.new.out l in
    let whole = subst P (ap (λ (l : List ℕ). head ++ l) all ∙ document_head c.args.framing text c.len.result (sym c.len.ensures))
    (wrote_then g.W.Write.contents c.args.writer.now c.write_document_head.new.writer c.write.new.out head text c.in_ok-write_document_head.ensures.written c.in_ok-write.ensures.written) in
    (refl, whole, tt)

pub returns-in_err-write : goal.returns-in_err-write
returns-in_err-write g c =
    let text : List ℕ = c.args.document.now in
    let head = framed c.args.framing statuses.Ok (content_lines (codes "application/xml") c.len.result) [] in
    let all : text ≡ sent_body c.args.framing text = sym (ap (λ (b : Bool). if b then [] else text) c.if-framing.false) in
    let cut = failed_last g.W.Write.contents c.args.writer.now c.write_document_head.new.writer c.write.new.out head text _ c.in_ok-write_document_head.ensures.written c.in_err-write.ensures.within
    (ap (λ (l : List ℕ). head ++ l) all ∙ document_head c.args.framing text c.len.result (sym c.len.ensures)) in
    rw (passes c.from_residual-in_err-write.result Write c.from_residual-in_err-write.ensures) (tt, cut, refl)
