use Rattle.std.proofs.Common.{rules}
use Rattle.rs_model.specs.declared.command.Command.TheVariants.{Delete}
use Rattle.rs_model.proofs.LawfulLemmas.{kept_lawful}
use Rattle.rs_model.proofs.state.State.delete.Goals as goal

pub invariant_of-self-2 : goal.invariant_of-self-2
invariant_of-self-2 c =
    record {
      lawful = kept_lawful _ _ _ (Delete c.args.name) c.args.moment c.self.view_is c.self.invariant.lawful (rw (← c.name.view_is) c.name.invariant) c.requires.moment c.requires.accepted (search rules);
      listed = c.self.invariant.listed;
    }
