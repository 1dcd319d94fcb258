use Rattle.std.proofs.Common.{rules, arith, ◌++◌}
use Rattle.rs_extent.specs.Extents.{in_some}
use Rattle.rs_store.proofs.FromBelow.{only_as, only_then, written_stay, some_front, some_behind, beside_front, apart_front, apart_behind, beside_between}
use Rattle.rs_page.specs.Items.{record_format}
use Rattle.rs_page.specs.Pages.{placed_extents}
use Rattle.rs_store.proofs.writing.write_pages.Goals as goal

pub store_touched-requires-clause-room : goal.store_touched-requires-clause-room
store_touched-requires-clause-room g c b is =
    c.requires.room b (some_front (placed_extents c.args.contents.now.catalogue) (placed_extents c.args.contents.now.history.pages) b is)

pub store_touched-requires-clause-apart : goal.store_touched-requires-clause-apart
store_touched-requires-clause-apart g c =
    apart_front (placed_extents c.args.contents.now.catalogue) (placed_extents c.args.contents.now.history.pages) c.requires.apart

pub returns-in_err-store_touched-clause-writes : goal.returns-in_err-store_touched-clause-writes
returns-in_err-store_touched-clause-writes g c = record {
  runs = search rules;
  outside = λ kept beside.
      c.store_touched.ensures.writes.writes.outside kept
      (beside_front kept (placed_extents c.args.contents.now.catalogue) (placed_extents c.args.contents.now.history.pages) beside);
}

pub store_touched-requires-2-clause-room : goal.store_touched-requires-2-clause-room
store_touched-requires-2-clause-room g c b is =
    let room = c.requires.room b (some_behind (placed_extents c.args.contents.now.catalogue) (placed_extents c.args.contents.now.history.pages) b is) in
    omega (arith, room, c.store_touched.ensures.writes.writes.runs.runs.size)

pub store_touched-requires-2-clause-apart : goal.store_touched-requires-2-clause-apart
store_touched-requires-2-clause-apart g c =
    apart_behind (placed_extents c.args.contents.now.catalogue) (placed_extents c.args.contents.now.history.pages) c.requires.apart

pub returns-in_err-store_touched-2-clause-writes : goal.returns-in_err-store_touched-2-clause-writes
returns-in_err-store_touched-2-clause-writes g c =
    let pages = placed_extents c.args.contents.now.catalogue in
    let changes = placed_extents c.args.contents.now.history.pages in
    let old = g.D.Disk.state c.args.disk.now in
    let mid = g.D.Disk.state c.store_touched.new.disk in
    let new = g.D.Disk.state c.store_touched-2.new.disk in
    let both = only_then pages changes (pages ++ changes) old mid new (some_front pages changes) (some_behind pages changes) (λ is. absurd cc)
    c.in_ok-store_touched.ensures.writes.writes c.in_err-store_touched-2.ensures.writes.writes in
    record { runs = search rules; outside = both.outside }

pub returns-clause-pages : goal.returns-clause-pages
returns-clause-pages g c =
    let pages = placed_extents c.args.contents.now.catalogue in
    let changes = placed_extents c.args.contents.now.history.pages in
    let after = c.store_touched-2.ensures.writes.writes.outside (in_some pages) (beside_between pages changes c.requires.apart) in
    record {
      catalogue = written_stay record_format (in_some pages) c.args.contents.now.catalogue
          (g.D.Disk.state c.store_touched.new.disk).now.seen (g.D.Disk.state c.store_touched-2.new.disk).now.seen
          (λ b is. is) after.seen c.in_ok-store_touched.ensures.ok.reads;
      history = c.in_ok-store_touched-2.ensures.ok.reads;
    }

pub returns-clause-writes : goal.returns-clause-writes
returns-clause-writes g c =
    let pages = placed_extents c.args.contents.now.catalogue in
    let changes = placed_extents c.args.contents.now.history.pages in
    only_as (pages ++ changes) (g.D.Disk.state c.args.disk.now) (g.D.Disk.state c.store_touched-2.new.disk) (λ is. absurd cc) (λ is. absurd cc)
    (only_then pages changes (pages ++ changes) (g.D.Disk.state c.args.disk.now) (g.D.Disk.state c.store_touched.new.disk) (g.D.Disk.state c.store_touched-2.new.disk)
    (some_front pages changes) (some_behind pages changes) (λ is. absurd cc) c.in_ok-store_touched.ensures.writes.writes c.in_ok-store_touched-2.ensures.writes.writes)
