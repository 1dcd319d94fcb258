-- A document is shown if it exists, unless the source is closed.
use Rattle.std.proofs.Common.{ap, sym, ◌∙◌, codes}
use Rattle.rs_store.specs.Views.{shown_by_source}
use Rattle.rs_http.specs.declared.request.RequestFault.TheVariants.{NoSuchDocument}
use Rattle.rs_http.specs.Responses.{shown, faulted}
use Rattle.rs_http.specs.Outcomes.{document_or_none}
use Rattle.rs_http.proofs.Asking.{answered, document_is}
use Rattle.rs_http.proofs.ask.show_document.Goals as goal

pub returns-in-Some : goal.returns-in-Some
returns-in-Some g c =
    let view = shown_by_source c.in-Ok.view in
    answered (shown (codes "application/xml") c.in-Some.document)
    (document_is c.documents_are_of_the_state.ensures g.D.Disk.state c.args.source.now c.args.doc view _ c.in-Ok.view c.in-Ok.ensures.closed c.in-Ok.ensures.shows
    (ap document_or_none (sym c.of.ensures ∙ c.in-Some.is)))
    c.write_shown_document.ensures

pub returns-in-None : goal.returns-in-None
returns-in-None g c =
    let view = shown_by_source c.in-Ok.view in
    answered (faulted NoSuchDocument)
    (document_is c.documents_are_of_the_state.ensures g.D.Disk.state c.args.source.now c.args.doc view _ c.in-Ok.view c.in-Ok.ensures.closed c.in-Ok.ensures.shows
    (ap document_or_none (sym c.of.ensures ∙ c.in-None.is)))
    c.write_fault.ensures
