use Rattle.std.proofs.Common.{rules, sym, subst, ◌∙◌}
use Rattle.std.specs.Prelude.{List}
use Rattle.std.proofs.lemmas.Result.{err_from_is_err_and}
use Rattle.rs_image.proofs.FromBelow.{reading_as, reading_then}
use Rattle.rs_page.specs.declared.place.PageRef.{PageRef}
use Rattle.rs_pages.specs.Storing.{items_by_page}
use Rattle.rs_catalogue.specs.Catalogue.{HoldsCatalogue}
use Rattle.rs_image.proofs.ListsRead.{went_well, handed_lists, two_read, three_read}
use Rattle.rs_image.proofs.Standing.{still_held, catalogue_stands}
use Rattle.rs_image.proofs.loading.load_lists.Goals as goal

-- the lists are read one after the other
pub returns-in_err-history-clause-reads : goal.returns-in_err-history-clause-reads
returns-in_err-history-clause-reads g c =
    let all = two_read c.args.directory _ _ _ _ _ _ c.deref.ensures.value c.deref-2.ensures.value
    c.in_ok-catalogue.ensures.reads c.in_err-history.ensures.reads in
    handed_lists _ _ _ _ _ c.from_residual-in_err-history.ensures.1 all

pub returns-in_err-published-clause-reads : goal.returns-in_err-published-clause-reads
returns-in_err-published-clause-reads g c =
    let all = three_read c.args.directory _ _ _ _ _ _ _ _ _ _ c.deref.ensures.value c.deref-2.ensures.value c.deref-3.ensures.value (c.in_ok-catalogue.ensures.pages.named ∙ c.deref.ensures.value)
    c.in_ok-catalogue.ensures.reads c.in_ok-history.ensures.reads c.in_err-published.ensures.reads in
    handed_lists _ _ _ _ _ c.from_residual-in_err-published.ensures.1 all

pub returns-clause-reads : goal.returns-clause-reads
returns-clause-reads g c =
    let state = g.D.Disk.state in
    let all = three_read c.args.directory _ _ _ _ _ _ _ _ _ _ c.deref.ensures.value c.deref-2.ensures.value c.deref-3.ensures.value (c.in_ok-catalogue.ensures.pages.named ∙ c.deref.ensures.value)
    c.in_ok-catalogue.ensures.reads c.in_ok-history.ensures.reads c.in_ok-published.ensures.reads in
    record {
      runs = reading_as (state c.args.disk.now) (state c.load_beside.new.disk) (λ told. absurd (went_well c.in_ok-published.published told)) (λ told. absurd (went_well _ told)) all.runs;
      calls = all.calls;
    }

-- the catalogue that was read is on the disk where the published list is read with it
pub returns-in_err-published-clause-damaged : goal.returns-in_err-published-clause-damaged
returns-in_err-published-clause-damaged g c =
    let state = g.D.Disk.state in
    let rest = reading_then (state c.load.new.disk) (state c.load-2.new.disk) (state c.load_beside.new.disk) (went_well c.in_ok-history.history)
    c.in_ok-history.ensures.reads.runs c.in_err-published.ensures.reads.runs in
    let p = err_from_is_err_and c.from_residual-in_err-published.result c.from_residual-in_err-published.ensures.1 in
    rw (p.1, p.2)
    (λ damaged honest catalogue changes published holds.
    c.in_err-published.ensures.damaged (cc) honest
    (catalogue_stands c.deref.result.now c.in_ok-catalogue.catalogue (state c.load.new.disk) (state c.load_beside.new.disk) rest
    c.in_ok-catalogue.ensures.pages.named c.in_ok-catalogue.ensures.pages.stored c.in_ok-catalogue.ensures.found honest)
    published (subst (λ (refs : List PageRef). HoldsCatalogue refs (state c.load_beside.new.disk).now.seen published) (sym c.deref-3.ensures.value) holds.published))

pub returns-clause-found : goal.returns-clause-found
returns-clause-found g c honest =
    let state = g.D.Disk.state in
    let rest = reading_then (state c.load.new.disk) (state c.load-2.new.disk) (state c.load_beside.new.disk) (went_well c.in_ok-history.history)
    c.in_ok-history.ensures.reads.runs c.in_ok-published.ensures.reads.runs in
    let stand = catalogue_stands c.deref.result.now c.in_ok-catalogue.catalogue (state c.load.new.disk) (state c.load_beside.new.disk) rest
    c.in_ok-catalogue.ensures.pages.named c.in_ok-catalogue.ensures.pages.stored c.in_ok-catalogue.ensures.found honest in
    record {
      catalogue = subst (λ (refs : List PageRef). HoldsCatalogue refs (state c.load_beside.new.disk).now.seen (items_by_page c.in_ok-catalogue.catalogue)) c.deref.ensures.value
          (still_held c.deref.result.now c.in_ok-catalogue.catalogue (state c.load.new.disk) (state c.load_beside.new.disk) rest c.in_ok-catalogue.ensures.found honest);
      changes = search rules;
      published = subst (λ (refs : List PageRef). HoldsCatalogue refs (state c.load_beside.new.disk).now.seen (items_by_page c.in_ok-published.published)) c.deref-3.ensures.value
          (c.in_ok-published.ensures.found honest stand);
    }
