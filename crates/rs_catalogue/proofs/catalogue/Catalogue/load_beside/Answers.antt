use Rattle.std.proofs.Common.{true≢false, ◌≡◌, List, map, sym, ◌∙◌, subst}
use Rattle.std.specs.Prelude.{flat_map, All}
use Rattle.rs_page.specs.DiskPages.{Stands}
use Rattle.rs_page.specs.Items.{record_format}
use Rattle.rs_record.specs.declared.record.Record.{Record}
use Rattle.rs_page.specs.Pages.{Page}
use Rattle.rs_catalogue.specs.Catalogue.{AreHeld, records_of}
use Rattle.rs_catalogue.proofs.Joined.{joined}
use Rattle.rs_catalogue.proofs.catalogue.Catalogue.load_beside.Goals as goal

pub returns-else-is_ordered-clause-damaged : goal.returns-else-is_ordered-clause-damaged
returns-else-is_ordered-clause-damaged g c damaged honest stand records holds =
    let pages : List (Page Record) = c.in_ok-found.found in
    let there = subst (λ (ps : List (Page Record)). All (Stands record_format (g.D.Disk.state c.load_beside.new.disk).now.seen) ps) (sym c.beside.view_is) stand in
    let same : records ≡ map (λ page. page.items) pages =
    c.pages_hold_once.ensures.pages c.args.pages.now (g.D.Disk.state c.load_beside.new.disk).now.seen records (map (λ page. page.items) pages) holds.hold (c.in_ok-found.ensures.found honest there).hold in
    let held : AreHeld (records_of pages) = subst AreHeld (joined pages) (subst (λ (items : List (List Record)). AreHeld (flat_map (λ i. i) items)) same holds.held) in
    absurd (true≢false (sym (c.is_ordered.ensures.1 held.ordered) ∙ c.if-is_ordered.false))

pub returns-then-is_ordered-clause-found : goal.returns-then-is_ordered-clause-found
returns-then-is_ordered-clause-found g c honest stand =
    let pages : List (Page Record) = c.in_ok-found.found in
    let there = subst (λ (ps : List (Page Record)). All (Stands record_format (g.D.Disk.state c.load_beside.new.disk).now.seen) ps) (sym c.beside.view_is) stand in
    let held : AreHeld (records_of pages) = record { ordered = c.is_ordered.ensures.0 c.if-is_ordered.true; room = c.in_ok-found.ensures.pages.room } in
    record {
      hold = (c.in_ok-found.ensures.found honest there).hold;
      held = subst AreHeld (sym (joined pages)) held;
    }
