use Rattle.std.proofs.Common.{ap, sym, ◌∙◌}
use Rattle.rs_pages.proofs.ByEntry.{one_entry, no_entry}
use Rattle.rs_pages.proofs.beside.entries_of.Goals.{in-Some+in_ok-push, in_default}
use Rattle.rs_pages.proofs.beside.entries_of.Goals as goal

pub loop-place-preserved : goal.loop-place-preserved
loop-place-preserved g c =
    let pages = c.args.pages.now in
    let page = c.index-pages-place.result in
    elim c.match-entry_of.branch [
      | in-Some+in_ok-push w ↦
          one_entry c.loop-place.place pages page w.in-Some.entry c.loop-place.entries.items _ c.loop-place-test.true c.index-pages-place.is w.in-Some.ensures
          (ap (λ v. v.items) w.entries-is ∙ w.in_ok-push.ensures.items) c.loop-place.invariant
      | in_default w ↦ no_entry c.loop-place.place pages page c.loop-place.entries.items _ c.loop-place-test.true c.index-pages-place.is (sym w.in_default.is ∙ c.entry_of.ensures) (ap (λ v. v.items) w.entries-is) c.loop-place.invariant
    ]
