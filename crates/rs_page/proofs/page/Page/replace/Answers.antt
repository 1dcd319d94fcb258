use Rattle.std.specs.Prelude.{length, slice_get, slice_set, IfSome}
use Rattle.std.proofs.Common.{◌≡◌, sym, subst}
use Rattle.rs_page.specs.Pages.{Page}
use Rattle.rs_page.proofs.Replaced.{replaced, kept_along}
use Rattle.rs_page.proofs.page.Page.replace.Goals as goal

pub invariant_of-self : goal.invariant_of-self
invariant_of-self g c = (
  kept_along g.T.PageItem.format (slice_set c.self.inside.items.items c.args.i c.args.item) c.replace.new.self.items c.self.inside.place c.replace.ensures.items
      (replaced g.T.PageItem.format c.self.inside.items.items c.self.inside.place c.args.i c.args.item
      (subst (λ (page : Page g.row.T.Denot). IfSome (slice_get page.items c.args.i) (λ old. length (g.T.PageItem.format.bytes c.args.item) ≡ length (g.T.PageItem.format.bytes old)))
      (sym c.self.view_is) c.requires.fits)
      c.self.invariant.0),
  λ _. c.replace.ensures.own,
)
