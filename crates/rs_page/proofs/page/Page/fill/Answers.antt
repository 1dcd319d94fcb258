use Rattle.std.proofs.Common.{◌<◌, length, sym, subst}
use Rattle.rs_page.specs.Pages.{Page}
use Rattle.rs_page.proofs.Replaced.{filled_kept}
use Rattle.rs_page.proofs.page.Page.fill.Goals as goal

pub invariant_of-self : goal.invariant_of-self
invariant_of-self g c =
    let items = c.self.inside.items.items in
    let inside : c.args.i < length items = subst (λ (page : Page g.row.T.Denot). c.args.i < length page.items) (sym c.self.view_is) c.requires.within in (
      filled_kept g.T.PageItem.format (g.T.Fill.filled c.args.digests) items c.fill.new.self.items c.self.inside.place c.args.i inside c.fill.ensures.items c.fill.ensures.size c.self.invariant.0,
      λ _. c.fill.ensures.own,
    )
