-- The pieces, at the base's bytes.
use Rattle.rs_caps.proofs.Texts.{capabilities_pieces}
use Rattle.rs_caps.proofs.documents.document.capabilities.Goals as goal

pub returns-clause-text : goal.returns-clause-text
returns-clause-text c =
    capabilities_pieces c.args.base.now c.bytes.result.now c.bytes-2.result.now c.bytes-3.result.now
    c.bytes.ensures.value c.bytes-2.ensures.value c.bytes-3.ensures.value
