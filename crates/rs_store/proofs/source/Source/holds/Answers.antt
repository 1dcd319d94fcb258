use Rattle.std.proofs.Common.{rules, sym, ◌∙◌, ap}
use Rattle.std.specs.Prelude.{not}
use Rattle.rs_model.specs.Names.{value_of}
use Rattle.rs_catalogue.specs.Catalogue.{records_of}
use Rattle.rs_store.specs.Source.{state_of}
use Rattle.rs_store.proofs.Lookups.{held_found, lacking}
use Rattle.rs_store.proofs.source.Source.holds.Goals as goal

pub returns-clause-found : goal.returns-clause-found
returns-clause-found g c = search rules

pub returns-clause-held : goal.returns-clause-held
returns-clause-held g c =
    returns-clause-found g c
    ∙ sym (held_found (g.D.Disk.state c.args.self.now.disk).now.seen c.args.name.now (records_of c.args.self.now.contents.catalogue))

pub returns-clause-lacks : goal.returns-clause-lacks
returns-clause-lacks g c =
    ap not (returns-clause-held g c) ∙ sym (lacking (value_of c.args.name.now (state_of g.D.Disk.state c.args.self.now).held))
