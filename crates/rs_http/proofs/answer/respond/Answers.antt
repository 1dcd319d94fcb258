-- Every plan, as its own function answers it.
use Rattle.std.proofs.Common.{◌≡◌, ◌∙◌, Ok, Err, ap, refl}
use Rattle.rs_http.specs.declared.request.RequestPlan.TheVariants.{ShowBody, ShowDocument, Delete, Publish}
use Rattle.rs_http.specs.Responses.{faulted}
use Rattle.rs_http.proofs.Asking.{answered}
use Rattle.rs_http.proofs.Endings.{unread, sent_bare, put_answered}
use Rattle.rs_http.proofs.answer.respond.Goals as goal

pub returns-in-Err-clause-ends : goal.returns-in-Err-clause-ends
returns-in-Err-clause-ends g c =
    sent_bare (Err c.in-Err.fault) g.R.Read.remaining c.args.reader.now c.in-Err.is
    (answered {contents = g.W.Write.contents} {before = c.args.writer.now} {after = c.write_fault.new.writer} {framing = c.args.exchange.framing} {result = c.write_fault.result}
    {comes = λ o. o ≡ faulted c.in-Err.fault} (faulted c.in-Err.fault) refl c.write_fault.ensures) (λ o e. (refl, e, refl))

pub returns-in-Ok-ShowBody-clause-ends : goal.returns-in-Ok-ShowBody-clause-ends
returns-in-Ok-ShowBody-clause-ends g c =
    sent_bare (Ok (ShowBody c.in-Ok-ShowBody.name)) g.R.Read.remaining c.args.reader.now (c.in-Ok-ShowBody.is ∙ ap Ok c.in-Ok-ShowBody.field-0-is)
    (c.show_body.ensures c.args.exchange.moment) (λ o h. (refl, h))

pub returns-in-Ok-ShowBody-clause-silent : goal.returns-in-Ok-ShowBody-clause-silent
returns-in-Ok-ShowBody-clause-silent g c = λ is. absurd (unread c.show_body.result (c.show_body.ensures c.args.exchange.moment).sends.2 is)

pub returns-in-Ok-ShowDocument-clause-ends : goal.returns-in-Ok-ShowDocument-clause-ends
returns-in-Ok-ShowDocument-clause-ends g c =
    sent_bare (Ok (ShowDocument c.in-Ok-ShowDocument.doc)) g.R.Read.remaining c.args.reader.now (c.in-Ok-ShowDocument.is ∙ ap Ok c.in-Ok-ShowDocument.field-0-is)
    c.show_document.ensures (λ o e. (refl, e, refl))

pub returns-in-Ok-Delete-clause-ends : goal.returns-in-Ok-Delete-clause-ends
returns-in-Ok-Delete-clause-ends g c =
    sent_bare (Ok (Delete c.in-Ok-Delete.name)) g.R.Read.remaining c.args.reader.now (c.in-Ok-Delete.is ∙ ap Ok c.in-Ok-Delete.field-0-is)
    c.run.ensures (λ o h. (refl, h))

pub returns-in-Ok-Publish-clause-ends : goal.returns-in-Ok-Publish-clause-ends
returns-in-Ok-Publish-clause-ends g c =
    sent_bare (Ok Publish) g.R.Read.remaining c.args.reader.now (c.in-Ok-Publish.is ∙ ap Ok c.in-Ok-Publish.field-0-is)
    c.run-in-Ok-Publish.ensures (λ o h. (refl, h))

pub returns-in-Ok-Put-clause-ends : goal.returns-in-Ok-Put-clause-ends
returns-in-Ok-Put-clause-ends g c =
    let asked = c.in-Ok-Put.is ∙ ap Ok c.in-Ok-Put.field-0-is in
    rw asked
    (put_answered g.R.Read.remaining c.args.reader.now c.put_from-answered.new.reader g.W.Write.contents c.args.writer.now c.write_put.new.writer c.put_from-answered.result
    c.put_from-answered.ensures.came c.put_from-answered.ensures.failed c.put_from-answered.ensures.ended c.write_put.ensures.sends c.write_put.ensures.broken c.write_put.ensures.silent)
