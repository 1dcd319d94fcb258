use Rattle.std.proofs.Common.{◌≡◌, List, ap, ◌∙◌, sym, subst, rules}
use Rattle.std.specs.Prelude.{IsTrue}
use Rattle.std.proofs.lemmas.Fn.{always_returns_same}
use Rattle.rs_model.specs.Names.{is_ordered}
use Rattle.rs_page.specs.Pages.{Page, items_of}
use Rattle.rs_pages.specs.Items.{keyed}
use Rattle.rs_pages.specs.Rule.{HaveItems, begins_by, home}
use Rattle.rs_pages.proofs.AtHome.{home_is, parted}
use Rattle.rs_pages.proofs.pages.Pages.home_of.Goals as goal

-- the closure decides whether a page begins by the name
pub returns-clause-value : goal.returns-clause-value
returns-clause-value g c =
    let pages : List (Page g.row.T.Denot) = c.deref.result.now in
    let same : pages ≡ c.args.self.now = c.deref.ensures.value ∙ c.self.view_is in
    let have : HaveItems pages = subst HaveItems (sym c.deref.ensures.value) c.self.invariant.some in
    let ordered : IsTrue (is_ordered (keyed g.T.Named.name (items_of pages))) =
    subst (λ (pages : List (Page g.row.T.Denot)). IsTrue (is_ordered (keyed g.T.Named.name (items_of pages)))) (sym same) c.requires in
    let point = c.partition_point-begun.ensures.partitioned (λ page. begins_by g.T.Named.name c.args.name.now page.items)
    (always_returns_same _ _ _ (λ a r f called. search rules)) (parted g.T.Named.name c.args.name.now pages have ordered) in
    c.saturating_sub.ensures
    ∙ (sym (home_is g.T.Named.name c.args.name.now pages c.partition_point-begun.result c.partition_point-begun.ensures.bound point.0 point.1)
    ∙ ap (home g.T.Named.name c.args.name.now) same)
