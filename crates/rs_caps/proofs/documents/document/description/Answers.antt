-- The pieces, at the base's bytes.
use Rattle.rs_caps.proofs.Texts.{description_pieces}
use Rattle.rs_caps.proofs.documents.document.description.Goals as goal

pub returns-clause-text : goal.returns-clause-text
returns-clause-text c = description_pieces c.args.base.now c.bytes.result.now c.bytes.ensures.value
