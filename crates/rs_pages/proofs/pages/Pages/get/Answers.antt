use Rattle.std.proofs.Common.{ap, ◌∙◌, sym, subst, List}
use Rattle.std.specs.Prelude.{IsTrue}
use Rattle.rs_model.specs.Names.{is_ordered, value_of}
use Rattle.rs_pages.specs.Items.{keyed}
use Rattle.rs_pages.specs.Rule.{items_at}
use Rattle.rs_pages.proofs.AtHome.{ordered_at, found_item}
use Rattle.rs_pages.proofs.Flat.{found_at_home}
use Rattle.rs_pages.proofs.pages.Pages.get.Goals as goal

pub place_of-requires : goal.place_of-requires
place_of-requires g c =
    subst (λ (items : List g.row.T.Denot). IsTrue (is_ordered (keyed g.T.Named.name items))) (sym c.items_at-items.ensures)
    (ordered_at g.T.Named.name c.home_of.result c.args.self.now c.requires)

pub returns-in-Ok : goal.returns-in-Ok
returns-in-Ok g c =
    let here = found_item g.T.Named.name c.args.name.now c.items_at-items.result.now c.in-Ok.i c.index-items-i.result c.in-Ok.ensures c.index-items-i.is in
    sym here
    ∙ (ap (λ items. value_of c.args.name.now (keyed g.T.Named.name items)) c.items_at-items.ensures
    ∙ (ap (λ i. value_of c.args.name.now (keyed g.T.Named.name (items_at i c.args.self.now))) c.home_of.ensures.value
    ∙ sym (found_at_home g.T.Named.name c.args.name.now c.args.self.now c.requires)))

pub returns-in-Err : goal.returns-in-Err
returns-in-Err g c =
    sym c.in-Err.ensures.value
    ∙ (ap (λ items. value_of c.args.name.now (keyed g.T.Named.name items)) c.items_at-items.ensures
    ∙ (ap (λ i. value_of c.args.name.now (keyed g.T.Named.name (items_at i c.args.self.now))) c.home_of.ensures.value
    ∙ sym (found_at_home g.T.Named.name c.args.name.now c.args.self.now c.requires)))
