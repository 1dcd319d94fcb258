use Rattle.rs_model.proofs.LawfulLemmas.{facts_lawful}
use Rattle.rs_model.proofs.state.facts.Goals as goal

pub returns-clause-lawful : goal.returns-clause-lawful
returns-clause-lawful c = facts_lawful _ _ c.bytes.ensures.lawful c.requires
