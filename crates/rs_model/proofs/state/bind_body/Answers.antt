use Rattle.std.proofs.Common.{◌∙◌, ap}
use Rattle.rs_record.specs.Changes.{bound}
use Rattle.rs_model.proofs.state.bind_body.Goals as goal

pub returns-clause-change : goal.returns-clause-change
returns-clause-change c = c.in_ok-change.ensures ∙ ap (bound c.args.name c.args.again c.args.moment) c.facts-facts.ensures.value
