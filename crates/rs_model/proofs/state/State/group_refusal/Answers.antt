use Rattle.std.proofs.Common.{ap, ◌∙◌, arith}
use Rattle.rs_model.specs.declared.command.Command.TheVariants.{Group}
use Rattle.rs_model.specs.Step.{is_held, refusal_of}
use Rattle.rs_model.proofs.DecidedLemmas.{one_more_known, all_known}
use Rattle.rs_model.proofs.state.State.group_refusal.Goals as goal

pub loop-i-preserved : goal.loop-i-preserved
loop-i-preserved c =
    one_more_known c.args.self.now c.items-items.result.now c.loop-i.held c.loop-i.i c.index-items-i.result c.holds.result c.loop-i-test.true c.if-items-gt-MOST_GROUPED.false
    c.index-items-i.is (c.holds.ensures ∙ ap (is_held c.args.self.now) c.name.ensures) c.loop-i.invariant

pub returns : goal.returns
returns c =
    c.group_refusal.ensures c.args.self.now
    (record {
      ordered = c.counts.ensures.ordered;
      held_is = all_known c.args.self.now c.items-items.result.now c.loop-i.held c.loop-i.i c.loop-i.invariant (omega arith);
      resources = c.counts.ensures.resources;
      changes = c.counts.ensures.changes;
      last = c.counts.ensures.last;
    })
    ∙ ap (λ items. refusal_of c.args.self.now (Group items) c.args.now) c.items-items.ensures
