use Rattle.rs_lists.proofs.LawfulSizes.{lawful_document_small}
use Rattle.rs_lists.proofs.laws.documents_are_small.Goals as goal

pub returns : goal.returns
returns c = lawful_document_small
