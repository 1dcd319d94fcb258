use Rattle.std.proofs.Common.{ap, ◌∙◌, ◌++◌, [], arith}
use Rattle.std.specs.List.{cons_option}
use Rattle.rs_page.specs.Pages.{placed_extent}
use Rattle.rs_pages.proofs.ListedUpTo.{next_listed}
use Rattle.rs_pages.proofs.pages.Pages.list_placed.Goals as goal

pub loop-page-preserved : goal.loop-page-preserved
loop-page-preserved g c =
    let mid = c.loop-page.extents.items in
    record {
      items = next_listed c.loop-page.page-index c.deref-page-items.result.now c.page-item.result c.args.extents.now.items mid c.add_placed.new.extents.items
          c.loop-page-test.true c.loop-page.invariant.items
          (c.add_placed.ensures.items
          ∙ ap (λ p. mid ++ cons_option (placed_extent p) []) c.place.ensures
          ∙ ap (λ page. mid ++ cons_option (placed_extent page.place) []) c.page-item.is);
      len = omega arith;
      capacity = omega arith;
    }
