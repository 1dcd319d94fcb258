use Rattle.std.proofs.Common.{◌<◌, List, length, ap, ◌∙◌, sym, subst}
use Rattle.std.specs.Prelude.{IsNone}
use Rattle.rs_record.specs.declared.record.Record.{Record}
use Rattle.rs_model.specs.Names.{value_of}
use Rattle.rs_model.specs.State.{most_resources}
use Rattle.rs_page.specs.Pages.{Page}
use Rattle.rs_catalogue.specs.Named.{named}
use Rattle.rs_catalogue.specs.Catalogue.{records_of}
use Rattle.rs_catalogue.proofs.BoundRecords.{held-bind}
use Rattle.rs_catalogue.proofs.catalogue.Catalogue.with.Goals as goal

pub invariant_of-result : goal.invariant_of-result
invariant_of-result c =
    let pages : List (Page Record) = c.self.inside.pages in
    held-bind c.args.record.name c.args.record (records_of pages) (records_of c.in_ok-pages.pages) c.self.invariant
    (subst (λ (now : List (Page Record)). IsNone (value_of c.args.record.name (named (records_of now))) → length (records_of now) < most_resources) (sym c.self.view_is) c.requires)
    (ap (λ (next : List (Page Record)). named (records_of next)) c.in_ok-pages.ensures ∙ (c.pages_are_one_map.ensures.bound c.args.record pages c.self.invariant.ordered).0)
