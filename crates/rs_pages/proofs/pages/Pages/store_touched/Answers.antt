use Rattle.std.proofs.Common.{ap, ◌∙◌}
use Rattle.rs_pages.specs.Storing.{items_by_page}
use Rattle.rs_pages.proofs.Writing.{items_kept}
use Rattle.rs_pages.proofs.Placed.{counted_slice}
use Rattle.rs_pages.proofs.pages.Pages.store_touched.Goals as goal

pub invariant_of-self : goal.invariant_of-self
invariant_of-self g c =
    let old = c.self.inside.pages.items in
    let kept = items_kept g.T.PageItem.format (g.D.Disk.state c.store_all.new.disk).now.seen c.deref_mut.result.now c.store_all.new.pages c.store_all.result c.store_all.ensures.ok c.store_all.ensures.err in
    counted_slice c.self.inside.pages.len c.store_all.new.pages old c.self.inside.starts.items c.self.inside.len c.self.inside.pages.ok.0 (kept ∙ ap items_by_page c.deref_mut.ensures.value) c.self.invariant
