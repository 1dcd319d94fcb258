use Rattle.std.proofs.Common.{◌≡◌, List, sym, ◌∙◌, subst}
use Rattle.std.specs.Prelude.{IfOk}
use Rattle.rs_page.specs.Pages.{Page}
use Rattle.rs_pages.specs.Rule.{HaveItems}
use Rattle.rs_pages.specs.Dropped.{dropped_front}
use Rattle.rs_pages.proofs.Dropped.{dropping_has_items, left_is}
use Rattle.rs_pages.proofs.pages.Pages.without_front.Goals as goal

pub of_pages-requires : goal.of_pages-requires
of_pages-requires g c =
    let whole = c.whole_among-gone.result in
    let is : c.in_ok-pages.pages.items ≡ dropped_front c.args.count c.args.self.now =
    left_is c.args.count whole.0 whole.1 c.args.self.now c.deref.result.now c.deref-2.result.now c.in_ok-pages.pages.items
    (c.deref.ensures.value ∙ c.self.view_is) (c.deref-2.ensures.value ∙ c.self.view_is) c.whole_among-gone.ensures.dropped c.in_ok-pages.ensures in
    let have : HaveItems c.args.self.now = subst HaveItems c.self.view_is c.self.invariant.some in
    subst HaveItems (sym is) (dropping_has_items c.args.count c.args.self.now have)

pub returns : goal.returns
returns g c =
    let whole = c.whole_among-gone.result in
    subst (λ (pages : List (Page g.row.T.Denot)). IfOk c.of_pages.result (λ next. next ≡ pages))
    (left_is c.args.count whole.0 whole.1 c.args.self.now c.deref.result.now c.deref-2.result.now c.in_ok-pages.pages.items
    (c.deref.ensures.value ∙ c.self.view_is) (c.deref-2.ensures.value ∙ c.self.view_is) c.whole_among-gone.ensures.dropped c.in_ok-pages.ensures)
    c.of_pages.ensures
