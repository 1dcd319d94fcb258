use Rattle.std.proofs.Common.{◌≡◌, List, refl, sym, subst}
use Rattle.std.specs.Prelude.{IfSome}
use Rattle.rs_record.specs.declared.record.Record.{Record}
use Rattle.rs_model.specs.Names.{value_of, bind}
use Rattle.rs_page.specs.Items.{record_filled}
use Rattle.rs_page.specs.Pages.{Page}
use Rattle.rs_catalogue.specs.Named.{named}
use Rattle.rs_catalogue.specs.Catalogue.{records_of}
use Rattle.rs_catalogue.proofs.catalogue.Catalogue.fill.Goals as goal

pub returns-clause-filled : goal.returns-clause-filled
returns-clause-filled c =
    let pages : List (Page Record) = c.self.inside.pages in
    let name = c.args.name.now in
    subst (λ (now : List (Page Record)). IfSome (value_of name (named (records_of now))) (λ r. named (records_of c.fill.new.self) ≡ bind name (record_filled c.args.digests r) (named (records_of now))))
    c.self.view_is
    (subst (λ (new : List (Page Record)). IfSome (value_of name (named (records_of pages))) (λ r. named (records_of new) ≡ bind name (record_filled c.args.digests r) (named (records_of pages))))
    (sym c.fill.ensures.pages) (c.items_are_filled_as_one.ensures.one (record_filled c.args.digests) (λ r. refl) name pages c.self.invariant.ordered).bound)
