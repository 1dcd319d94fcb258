use Rattle.std.proofs.Common.{◌≡◌, ◌<◌, List, ℕ, None, length, sym, ap, ◌∙◌, subst, arith}
use Rattle.std.specs.Prelude.{IsTrue, IfSome, slice_get}
use Rattle.std.proofs.lemmas.List.{length-map}
use Rattle.rs_model.specs.Names.{is_ordered, value_of, IsFoundAt}
use Rattle.rs_page.specs.Pages.{Page}
use Rattle.rs_pages.specs.Filled.{IsUnstored}
use Rattle.rs_pages.specs.Items.{keyed}
use Rattle.rs_pages.specs.Rule.{items_at, home}
use Rattle.rs_pages.proofs.AtHome.{ordered_at}
use Rattle.rs_pages.proofs.FilledAt.{not_both, stands_at_home, filled_where_found}
use Rattle.rs_pages.proofs.pages.Pages.fill.Goals as goal

pub place_of-requires : goal.place_of-requires
place_of-requires g c =
    subst (λ (items : List g.row.T.Denot). IsTrue (is_ordered (keyed g.T.Named.name items))) (sym c.items_at.ensures)
    (ordered_at g.T.Named.name c.home_of-home.result c.args.self.now c.requires.ordered)

pub fill_at-requires-clause-within : goal.fill_at-requires-clause-within
fill_at-requires-clause-within g c =
    let keyed_within : c.in-Ok.i < length (keyed g.T.Named.name c.items_at.result.now) = c.in-Ok.ensures.within in
    let within : c.in-Ok.i < length c.items_at.result.now = rw length-map at keyed_within in
    omega (arith, within, ap length c.items_at.ensures)

pub fill_at-requires-clause-not_stored : goal.fill_at-requires-clause-not_stored
fill_at-requires-clause-not_stored g c =
    subst (λ (k : ℕ). IfSome (slice_get c.args.self.now k) (IsUnstored {T = g.row.T.Denot})) (sym c.home_of-home.ensures.value)
    (stands_at_home g.T.Named.name c.args.name.now c.args.self.now c.requires.ordered c.requires.unstored).1

pub returns-in-Ok-clause-pages : goal.returns-in-Ok-clause-pages
returns-in-Ok-clause-pages g c =
    let pages : List (Page g.row.T.Denot) = c.args.self.now in
    let found : IsFoundAt (keyed g.T.Named.name (items_at c.home_of-home.result pages)) c.args.name.now c.in-Ok.i =
    subst (λ (items : List g.row.T.Denot). IsFoundAt (keyed g.T.Named.name items) c.args.name.now c.in-Ok.i) c.items_at.ensures c.in-Ok.ensures in
    c.fill_at.ensures.pages
    ∙ filled_where_found g.T.Named.name (g.T.Fill.filled c.args.digests) c.args.name.now pages c.home_of-home.result c.in-Ok.i c.requires.ordered c.home_of-home.ensures.value found

pub returns-in_default-clause-pages : goal.returns-in_default-clause-pages
returns-in_default-clause-pages g c =
    let pages : List (Page g.row.T.Denot) = c.args.self.now in
    let n : List ℕ = c.args.name.now in
    let none : value_of n (keyed g.T.Named.name (items_at (home g.T.Named.name n pages) pages)) ≡ None =
    ap (λ k. value_of n (keyed g.T.Named.name (items_at k pages))) (sym c.home_of-home.ensures.value)
    ∙ ap (λ items. value_of n (keyed g.T.Named.name items)) (sym c.items_at.ensures) ∙ c.in_default.ensures.value in
    absurd (not_both (value_of n (keyed g.T.Named.name (items_at (home g.T.Named.name n pages) pages))) none (stands_at_home g.T.Named.name n pages c.requires.ordered c.requires.unstored).0)
