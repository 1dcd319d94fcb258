use Rattle.std.proofs.Common.{List, sym, subst}
use Rattle.std.specs.Prelude.{IsTrue}
use Rattle.rs_model.specs.Names.{is_ordered}
use Rattle.rs_pages.specs.Items.{keyed}
use Rattle.rs_pages.proofs.AtHome.{ordered_at}
use Rattle.rs_pages.proofs.pages.Pages.with.Goals as goal

pub with_item-requires : goal.with_item-requires
with_item-requires g c =
    subst (λ (items : List g.row.T.Denot). IsTrue (is_ordered (keyed g.T.Named.name items))) (sym c.items_at.ensures)
    (ordered_at g.T.Named.name c.home_of-home.result c.args.self.now c.requires)
