use Rattle.std.proofs.Common.{◌≡◌, List, ap, ◌∙◌, sym, subst}
use Rattle.std.specs.Prelude.{IsTrue, IfOk, remove}
use Rattle.rs_model.specs.Names.{is_ordered, IsFoundAt}
use Rattle.rs_page.specs.Pages.{Page}
use Rattle.rs_pages.specs.Items.{keyed}
use Rattle.rs_pages.specs.Rule.{items_at}
use Rattle.rs_pages.proofs.AtHome.{ordered_at, unbound_found}
use Rattle.rs_pages.proofs.pages.Pages.without.Goals as goal

pub place_of-requires : goal.place_of-requires
place_of-requires g c =
    subst (λ (items : List g.row.T.Denot). IsTrue (is_ordered (keyed g.T.Named.name items))) (sym c.items_at-items.ensures)
    (ordered_at g.T.Named.name c.home_of-home.result c.args.self.now c.requires)

pub returns-in_ok-left-in-Ok : goal.returns-in_ok-left-in-Ok
returns-in_ok-left-in-Ok g c =
    let found : IsFoundAt (keyed g.T.Named.name (items_at c.home_of-home.result c.args.self.now)) c.args.name.now c.in-Ok.place =
    subst (λ (items : List g.row.T.Denot). IsFoundAt (keyed g.T.Named.name items) c.args.name.now c.in-Ok.place) c.items_at-items.ensures c.in-Ok.ensures in
    subst (λ (pages : List (Page g.row.T.Denot)). IfOk c.with_page.result (λ next. next ≡ pages))
    (unbound_found g.T.Named.name c.args.name.now c.args.self.now c.home_of-home.result c.in-Ok.place c.in_ok-left-in-Ok.left.items c.home_of-home.ensures.value
    (c.in_ok-left-in-Ok.ensures ∙ ap (λ items. remove items c.in-Ok.place) c.items_at-items.ensures) found)
    c.with_page.ensures
