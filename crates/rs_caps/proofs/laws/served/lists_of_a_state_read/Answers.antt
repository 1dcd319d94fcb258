use Rattle.rs_caps.proofs.laws.served.lists_of_a_state_read.Goals as goal

pub returns-clause-resources : goal.returns-clause-resources
returns-clause-resources c = c.lists_read.ensures.resources c.args.state.now c.states_are_lawful.ensures

pub returns-clause-changes : goal.returns-clause-changes
returns-clause-changes c = c.lists_read.ensures.changes c.args.state.now c.states_are_lawful.ensures

pub returns-clause-mirrored : goal.returns-clause-mirrored
returns-clause-mirrored c = λ r. c.lists_read.ensures.mirrored c.args.state.now r c.states_are_lawful.ensures
