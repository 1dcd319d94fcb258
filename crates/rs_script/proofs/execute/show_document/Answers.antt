-- A document is shown if it exists, unless the source is closed.
use Rattle.std.proofs.Common.{ap, sym, ◌∙◌}
use Rattle.rs_store.specs.Views.{shown_by_source}
use Rattle.rs_script.specs.declared.refusal.Refusal.TheVariants.{NoSuchDocument}
use Rattle.rs_script.specs.Model.{shown_or}
use Rattle.rs_script.specs.Session.{shown, refused}
use Rattle.rs_script.proofs.AnswerLemmas.{document_answered, document_closed, is_open, is_closed}
use Rattle.rs_script.proofs.execute.show_document.Goals as goal

pub returns-in-Err-clause-answered : goal.returns-in-Err-clause-answered
returns-in-Err-clause-answered g c =
    document_closed g.D.Disk.state c.args.source.now c.args.now c.args.doc c.in-Err.refusal _ c.in-Err.ensures.only
    (is_closed c.view.result c.in-Err.refusal c.args.source.now.is_closed c.in-Err.is c.in-Err.ensures.only c.view.ensures.closed) c.write_refusal.ensures.written

pub returns-in-Some-clause-answered : goal.returns-in-Some-clause-answered
returns-in-Some-clause-answered g c =
    let view = shown_by_source c.in-Ok.view in
    document_answered c.documents_are_of_the_state.ensures g.D.Disk.state c.args.source.now c.args.now c.args.doc view (shown c.in-Some.document) _
    (is_open c.view.result c.in-Ok.view c.args.source.now.is_closed c.in-Ok.is c.view.ensures.closed) c.in-Ok.ensures.shows
    (ap (shown_or NoSuchDocument) (sym c.of.ensures ∙ c.in-Some.is)) c.write_shown_document.ensures.written

pub returns-in-None-clause-answered : goal.returns-in-None-clause-answered
returns-in-None-clause-answered g c =
    let view = shown_by_source c.in-Ok.view in
    document_answered c.documents_are_of_the_state.ensures g.D.Disk.state c.args.source.now c.args.now c.args.doc view (refused NoSuchDocument) _
    (is_open c.view.result c.in-Ok.view c.args.source.now.is_closed c.in-Ok.is c.view.ensures.closed) c.in-Ok.ensures.shows
    (ap (shown_or NoSuchDocument) (sym c.of.ensures ∙ c.in-None.is)) c.write_refusal-in-None.ensures.written
