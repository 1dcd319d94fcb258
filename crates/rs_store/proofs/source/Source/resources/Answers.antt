use Rattle.std.proofs.Common.{◌∙◌, subst}
use Rattle.std.specs.Prelude.{IsTrue}
use Rattle.rs_catalogue.specs.Catalogue.{records_of}
use Rattle.rs_catalogue.specs.Named.{named}
use Rattle.rs_model.specs.Names.{is_ordered}
use Rattle.rs_store.specs.Source.{Stored}
use Rattle.rs_store.proofs.Lookups.{held_ordered}
use Rattle.rs_store.proofs.source.Source.resources.Goals as goal

pub returns-clause-ordered : goal.returns-clause-ordered
returns-clause-ordered g c =
    held_ordered (g.D.Disk.state c.args.self.now.disk).now.seen (records_of c.args.self.now.contents.catalogue)
    ∙ subst (λ (s : Stored g.row.D.Denot). IsTrue (is_ordered (named (records_of s.contents.catalogue)))) c.self.view_is c.len.ensures.lawful.held.ordered
