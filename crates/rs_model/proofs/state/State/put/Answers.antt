use Rattle.std.proofs.Common.{rules}
use Rattle.rs_model.specs.declared.command.Command.TheVariants.{Put}
use Rattle.rs_model.proofs.LawfulLemmas.{kept_lawful}
use Rattle.rs_model.proofs.state.State.put.Goals as goal

pub invariant_of-self-2 : goal.invariant_of-self-2
invariant_of-self-2 c =
    record {
      lawful = kept_lawful _ _ _ (Put c.args.name c.args.kind c.args.bytes) c.args.moment c.self.view_is c.self.invariant.lawful (rw (← c.name.view_is) c.name.invariant, c.in_ok-change.ensures.lawful.kind) c.requires.moment c.requires.accepted (search rules);
      listed = c.self.invariant.listed;
    }
