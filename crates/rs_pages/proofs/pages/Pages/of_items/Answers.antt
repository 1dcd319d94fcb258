use Rattle.std.proofs.Common.{[], ◌++◌, sym, ◌∙◌, ap, subst}
use Rattle.rs_page.specs.Pages.{items_of, placed_extents, stored_refs}
use Rattle.rs_pages.specs.Rule.{HaveItems}
use Rattle.rs_pages.specs.Dropped.{full_pages}
use Rattle.rs_pages.proofs.Full.{full_items, full_have, full_unplaced, full_unstored, made_is, made_has}
use Rattle.rs_pages.proofs.pages.Pages.of_items.Goals as goal

pub of_pages-requires : goal.of_pages-requires
of_pages-requires g c =
    subst HaveItems (sym (c.in_ok-copy_in_pages.ensures ∙ ap (λ front. front ++ full_pages c.args.items.now) c.new-pages.ensures.items)) (full_have c.args.items.now)

pub returns-clause-pages : goal.returns-clause-pages
returns-clause-pages g c = made_is c.args.items.now c.new-pages.result.items c.copy_in_pages.new.pages.items c.new-pages.ensures.items c.in_ok-copy_in_pages.ensures c.of_pages.result c.of_pages.ensures

pub returns-clause-items : goal.returns-clause-items
returns-clause-items g c = made_has c.args.items.now items_of c.args.items.now (full_items c.args.items.now) c.of_pages.result (returns-clause-pages g c)

pub returns-clause-unplaced : goal.returns-clause-unplaced
returns-clause-unplaced g c = made_has c.args.items.now placed_extents [] (full_unplaced c.args.items.now) c.of_pages.result (returns-clause-pages g c)

pub returns-clause-unstored : goal.returns-clause-unstored
returns-clause-unstored g c = made_has c.args.items.now stored_refs [] (full_unstored c.args.items.now) c.of_pages.result (returns-clause-pages g c)
