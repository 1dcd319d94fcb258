use Rattle.std.proofs.Common.{List, ap, ◌∙◌}
use Rattle.rs_record.specs.declared.record.Record.{Record}
use Rattle.rs_page.specs.Pages.{Page}
use Rattle.rs_catalogue.specs.Named.{named}
use Rattle.rs_catalogue.specs.Catalogue.{records_of}
use Rattle.rs_catalogue.proofs.BoundRecords.{held-unbind}
use Rattle.rs_catalogue.proofs.catalogue.Catalogue.without.Goals as goal

pub invariant_of-result : goal.invariant_of-result
invariant_of-result c =
    let pages : List (Page Record) = c.self.inside.pages in
    held-unbind c.args.name.now (records_of pages) (records_of c.in_ok-pages.pages) c.self.invariant
    (ap (λ (next : List (Page Record)). named (records_of next)) c.in_ok-pages.ensures ∙ (c.pages_are_one_map.ensures.unbound c.args.name.now pages c.self.invariant.ordered).0)
