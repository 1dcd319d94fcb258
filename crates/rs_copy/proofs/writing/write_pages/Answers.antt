use Rattle.std.proofs.Common.{◌++◌, List, arith}
use Rattle.rs_extent.specs.declared.Extent.{Extent}
use Rattle.rs_extent.specs.Extents.{in_some, AreBeside}
use Rattle.rs_copy.proofs.FromBelow.{none_front, none_behind, beside_between, apart_front, apart_behind, outside_on, only_as, only_none, only_then, written_stay}
use Rattle.rs_page.specs.Items.{record_format, change_format}
use Rattle.rs_page.specs.Pages.{placed_extents}
use Rattle.rs_page.specs.declared.page.store.StoreFault.TheVariants.{Device}
use Rattle.rs_image.specs.declared.contents.Contents.{Contents}
use Rattle.rs_copy.specs.Copying.{pages_in}
use Rattle.rs_copy.proofs.Handed.{handed_err, on_ok, told_on}
use Rattle.rs_copy.proofs.Laid.{among_first, among_second, among_last}
use Rattle.rs_copy.proofs.writing.write_pages.Goals as goal

-- the blocks of the catalogue, of the history, and of the publication
abbrev first : Contents → List Extent
first c = placed_extents c.catalogue

abbrev second : Contents → List Extent
second c = placed_extents c.history.pages

abbrev last : Contents → List Extent
last c = placed_extents c.published

pub store_touched-requires-clause-room : goal.store_touched-requires-clause-room
store_touched-requires-clause-room g c b is = c.requires.room b (among_first c.args.contents.now b is)

pub store_touched-requires-clause-apart : goal.store_touched-requires-clause-apart
store_touched-requires-clause-apart g c =
    let lists = c.args.contents.now in
    apart_front (first lists) (second lists) (apart_front (first lists ++ second lists) (last lists) c.requires.apart)

pub returns-in_err-store_touched-clause-writes : goal.returns-in_err-store_touched-clause-writes
returns-in_err-store_touched-clause-writes g c =
    let lists = c.args.contents.now in
    let r = c.from_residual.result in
    let e = c.in_err-store_touched.field-0.0 in
    only_as (pages_in lists) _ _ (told_on r e Device c.from_residual.ensures.1) (handed_err r e Device c.from_residual.ensures.1)
    (only_then (first lists) (first lists) (pages_in lists) _ _ _ (among_first lists) (among_first lists) (λ none. none)
    (only_none {A = ⊥} (first lists) _ (λ none. none)) c.in_err-store_touched.ensures.writes.writes)

pub store_touched-requires-2-clause-room : goal.store_touched-requires-2-clause-room
store_touched-requires-2-clause-room g c b is =
    omega (arith, c.requires.room b (among_second c.args.contents.now b is), c.store_touched.ensures.writes.writes.runs.runs.size)

pub store_touched-requires-2-clause-apart : goal.store_touched-requires-2-clause-apart
store_touched-requires-2-clause-apart g c =
    let lists = c.args.contents.now in
    apart_behind (first lists) (second lists) (apart_front (first lists ++ second lists) (last lists) c.requires.apart)

pub returns-in_err-store_touched-2-clause-writes : goal.returns-in_err-store_touched-2-clause-writes
returns-in_err-store_touched-2-clause-writes g c =
    let lists = c.args.contents.now in
    let r = c.from_residual-in_err-store_touched-2.result in
    let e = c.in_err-store_touched-2.field-0.0 in
    let handed = c.from_residual-in_err-store_touched-2.ensures.1 in
    only_as (pages_in lists) _ _ (told_on r e Device handed) (handed_err r e Device handed)
    (only_then (first lists) (second lists) (pages_in lists) _ _ _ (among_first lists) (among_second lists) (λ is. absurd cc)
    c.in_ok-store_touched.ensures.writes.writes c.in_err-store_touched-2.ensures.writes.writes)

pub store_touched-requires-3-clause-room : goal.store_touched-requires-3-clause-room
store_touched-requires-3-clause-room g c b is =
    omega (arith, c.requires.room b (among_last c.args.contents.now b is), c.store_touched.ensures.writes.writes.runs.runs.size, c.store_touched-2.ensures.writes.writes.runs.runs.size)

pub store_touched-requires-3-clause-apart : goal.store_touched-requires-3-clause-apart
store_touched-requires-3-clause-apart g c =
    let lists = c.args.contents.now in
    apart_behind (first lists ++ second lists) (last lists) c.requires.apart

pub returns-clause-written : goal.returns-clause-written
returns-clause-written g c =
    let lists = c.args.contents.now in
    let one = g.E.Disk.state c.store_touched.new.disk in
    let two = g.E.Disk.state c.store_touched-2.new.disk in
    let new = g.E.Disk.state c.store_touched-3.new.disk in
    let then = c.store_touched-2.ensures.writes.writes in
    let at_last = c.store_touched-3.ensures.writes.writes in
    let between : AreBeside (in_some (first lists ++ second lists)) (last lists) = beside_between (first lists ++ second lists) (last lists) c.requires.apart in
    let behind : AreBeside (in_some (first lists)) (second lists) =
    beside_between (first lists) (second lists) (apart_front (first lists ++ second lists) (last lists) c.requires.apart) in
    let after_two = at_last.outside (in_some (second lists)) (λ b is. none_behind (first lists) (second lists) b (between b is)) in
    let after_one =
    outside_on (in_some (first lists)) one two new (then.outside (in_some (first lists)) behind)
    (at_last.outside (in_some (first lists)) (λ b is. none_front (first lists) (second lists) b (between b is))) in
    on_ok c.store_touched-3.result
    (λ stores. record {
      catalogue = written_stay record_format (in_some (first lists)) lists.catalogue one.now.seen new.now.seen (λ b is. is) after_one.seen c.in_ok-store_touched.ensures.ok.reads;
      history = written_stay change_format (in_some (second lists)) lists.history.pages two.now.seen new.now.seen (λ b is. is) after_two.seen c.in_ok-store_touched-2.ensures.ok.reads;
      published = stores.reads;
    })
    c.store_touched-3.ensures.ok

pub returns-clause-writes : goal.returns-clause-writes
returns-clause-writes g c =
    let lists = c.args.contents.now in
    only_then (pages_in lists) (last lists) (pages_in lists) _ _ _ (λ b is. is) (among_last lists) (λ is. absurd cc)
    (only_then (first lists) (second lists) (pages_in lists) _ _ _ (among_first lists) (among_second lists) (λ is. absurd cc)
    c.in_ok-store_touched.ensures.writes.writes c.in_ok-store_touched-2.ensures.writes.writes)
    c.store_touched-3.ensures.writes.writes
