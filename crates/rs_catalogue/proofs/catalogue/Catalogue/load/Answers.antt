use Rattle.std.proofs.Common.{true≢false, ◌≡◌, List, map, sym, ◌∙◌, subst}
use Rattle.std.specs.Prelude.{flat_map}
use Rattle.rs_record.specs.declared.record.Record.{Record}
use Rattle.rs_page.specs.Pages.{Page}
use Rattle.rs_catalogue.specs.Catalogue.{AreHeld, records_of}
use Rattle.rs_catalogue.proofs.Joined.{joined}
use Rattle.rs_catalogue.proofs.catalogue.Catalogue.load.Goals as goal

pub returns-then-not-is_ordered-clause-damaged : goal.returns-then-not-is_ordered-clause-damaged
returns-then-not-is_ordered-clause-damaged g c damaged honest records holds =
    let pages : List (Page Record) = c.in_ok-pages.pages in
    let same : records ≡ map (λ page. page.items) pages =
    c.pages_hold_once.ensures.pages c.args.pages.now (g.D.Disk.state c.load.new.disk).now.seen records (map (λ page. page.items) pages) holds.hold (c.in_ok-pages.ensures.found honest).hold in
    let held : AreHeld (records_of pages) = subst AreHeld (joined pages) (subst (λ (items : List (List Record)). AreHeld (flat_map (λ i. i) items)) same holds.held) in
    absurd (true≢false (sym (c.is_ordered.ensures.1 held.ordered) ∙ c.if-not-is_ordered.true))

pub returns-clause-found : goal.returns-clause-found
returns-clause-found g c honest =
    let pages : List (Page Record) = c.in_ok-pages.pages in
    let held : AreHeld (records_of pages) = record { ordered = c.is_ordered.ensures.0 c.if-not-is_ordered.false; room = c.in_ok-pages.ensures.pages.room } in
    record {
      hold = (c.in_ok-pages.ensures.found honest).hold;
      held = subst AreHeld (sym (joined pages)) held;
    }
