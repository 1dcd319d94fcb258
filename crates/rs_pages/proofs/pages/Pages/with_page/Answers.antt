use Rattle.std.proofs.Common.{◌≡◌, List, ap, ◌∙◌, sym, subst, take}
use Rattle.std.specs.Prelude.{IfOk}
use Rattle.rs_page.specs.Pages.{Page}
use Rattle.rs_pages.specs.Rule.{HaveItems, with_page}
use Rattle.rs_pages.proofs.AtHome.{spliced_is, have_with}
use Rattle.rs_pages.proofs.pages.Pages.with_page.Goals as goal

pub of_pages-requires : goal.of_pages-requires
of_pages-requires g c =
    let same : c.deref.result.now ≡ c.args.self.now = c.deref.ensures.value ∙ c.self.view_is in
    let pages : List (Page g.row.T.Denot) = c.in_ok-pages.pages.items in
    let is : pages ≡ with_page c.args.i c.args.items.items c.args.self.now =
    spliced_is c.args.i c.args.items.items c.args.self.now (take c.args.i c.deref.result.now) c.after.result.now pages c.in_ok-pages.ensures (ap (take c.args.i) same) c.after.ensures in
    let have : HaveItems c.args.self.now = subst HaveItems c.self.view_is c.self.invariant.some in
    subst HaveItems (sym is) (have_with c.args.i c.args.items.items c.args.self.now have)

pub returns : goal.returns
returns g c =
    let same : c.deref.result.now ≡ c.args.self.now = c.deref.ensures.value ∙ c.self.view_is in
    let pages : List (Page g.row.T.Denot) = c.in_ok-pages.pages.items in
    subst (λ (pages : List (Page g.row.T.Denot)). IfOk c.of_pages.result (λ next. next ≡ pages))
    (spliced_is c.args.i c.args.items.items c.args.self.now (take c.args.i c.deref.result.now) c.after.result.now pages c.in_ok-pages.ensures (ap (take c.args.i) same) c.after.ensures)
    c.of_pages.ensures
