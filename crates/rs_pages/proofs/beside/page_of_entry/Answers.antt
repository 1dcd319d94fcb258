use Rattle.std.proofs.Common.{rules, length, sym, refl, ◌<◌}
use Rattle.rs_pages.proofs.ByEntry.{no_page, page_there, page_inside, has_entry}
use Rattle.rs_pages.proofs.beside.page_of_entry.Goals as goal

pub returns-in_err-place-clause-none : goal.returns-in_err-place-clause-none
returns-in_err-place-clause-none g c none = no_page c.args.pages.now c.args.sorted.now c.args.entry.now c.requires.entries (c.in_err-place.ensures.none refl)

pub bounds-pages-place : goal.bounds-pages-place
bounds-pages-place g c =
    page_inside c.args.pages.now c.in_ok-place.place c.args.entry.now
    (page_there c.args.pages.now c.args.sorted.now c.args.entry.now c.in_ok-place.place c.requires.entries c.in_ok-place.ensures.some)

pub offset_bounds-pages-place : goal.offset_bounds-pages-place
offset_bounds-pages-place g c =
    let inside : c.in_ok-place.place < length c.args.pages.now = page_inside c.args.pages.now c.in_ok-place.place c.args.entry.now
    (page_there c.args.pages.now c.args.sorted.now c.args.entry.now c.in_ok-place.place c.requires.entries c.in_ok-place.ensures.some) in
    search rules

pub returns-clause-entry : goal.returns-clause-entry
returns-clause-entry g c =
    has_entry c.args.pages.now c.in_ok-place.place c.index-pages-place.result c.args.entry.now
    (page_there c.args.pages.now c.args.sorted.now c.args.entry.now c.in_ok-place.place c.requires.entries c.in_ok-place.ensures.some) c.index-pages-place.is

pub returns-clause-among : goal.returns-clause-among
returns-clause-among g c =
    let inside : c.in_ok-place.place < length c.args.pages.now = page_inside c.args.pages.now c.in_ok-place.place c.args.entry.now
    (page_there c.args.pages.now c.args.sorted.now c.args.entry.now c.in_ok-place.place c.requires.entries c.in_ok-place.ensures.some) in
    (c.in_ok-place.place, inside, sym c.index-pages-place.is)
