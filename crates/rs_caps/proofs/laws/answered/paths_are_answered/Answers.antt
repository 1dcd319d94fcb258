use Rattle.rs_caps.proofs.PathAnswers.{documents_answered, bodies_answered}
use Rattle.rs_caps.proofs.laws.answered.paths_are_answered.Goals as goal

pub returns-clause-documents : goal.returns-clause-documents
returns-clause-documents c = documents_answered

pub returns-clause-bodies : goal.returns-clause-bodies
returns-clause-bodies c = bodies_answered
