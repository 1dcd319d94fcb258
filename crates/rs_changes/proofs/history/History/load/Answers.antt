use Rattle.std.proofs.Common.{true≢false, ◌≡◌, List, map, sym, ◌∙◌, subst}
use Rattle.std.specs.Prelude.{flat_map}
use Rattle.rs_record.specs.declared.change.Change.{Change}
use Rattle.rs_page.specs.Pages.{Page}
use Rattle.rs_changes.specs.History.{AreKept, changes_of}
use Rattle.rs_changes.proofs.Joined.{joined}
use Rattle.rs_changes.proofs.history.History.load.Goals as goal

pub returns-then-not-is_rising-clause-damaged : goal.returns-then-not-is_rising-clause-damaged
returns-then-not-is_rising-clause-damaged g c damaged honest changes holds =
    let pages : List (Page Change) = c.in_ok-pages.pages in
    let same : changes ≡ map (λ page. page.items) pages =
    c.pages_hold_once.ensures.pages c.args.pages.now (g.D.Disk.state c.load.new.disk).now.seen changes (map (λ page. page.items) pages) holds.hold (c.in_ok-pages.ensures.found honest).hold in
    let kept : AreKept (changes_of pages) = subst AreKept (joined pages) (subst (λ (items : List (List Change)). AreKept (flat_map (λ i. i) items)) same holds.kept) in
    absurd (true≢false (sym (c.is_rising.ensures.1 kept.rising) ∙ c.if-not-is_rising.true))

pub returns-clause-found : goal.returns-clause-found
returns-clause-found g c honest =
    let pages : List (Page Change) = c.in_ok-pages.pages in
    let kept : AreKept (changes_of pages) = record { rising = c.is_rising.ensures.0 c.if-not-is_rising.false; room = c.in_ok-pages.ensures.pages.room } in
    record {
      hold = (c.in_ok-pages.ensures.found honest).hold;
      kept = subst AreKept (sym (joined pages)) kept;
    }
