use Rattle.std.proofs.Common.{rules}
use Rattle.rs_model.specs.declared.command.Command.TheVariants.{Publish}
use Rattle.rs_model.proofs.LawfulLemmas.{kept_lawful}
use Rattle.rs_model.proofs.ListedLemmas.{entries-records, records_listed}
use Rattle.rs_model.proofs.state.State.publish.Goals as goal

pub invariant_of-self : goal.invariant_of-self
invariant_of-self c =
    record {
      lawful = kept_lawful _ _ _ Publish c.args.moment c.self.view_is c.self.invariant.lawful tt c.requires.moment c.requires.accepted (search (rules, entries-records));
      listed = rw c.in_ok-self-inside.ensures (records_listed _);
    }

pub returns-clause-state : goal.returns-clause-state
returns-clause-state c = search (rules, entries-records)
