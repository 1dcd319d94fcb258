use Rattle.std.proofs.Common.{Err, sym, ap}
use Rattle.rs_caps.proofs.NamesHeld.{no_body}
use Rattle.rs_caps.proofs.documents.answering.body.Goals as goal

pub returns-in-Err-Malformed : goal.returns-in-Err-Malformed
returns-in-Err-Malformed c =
    sym (no_body c.args.name.now c.args.state.now c.states_are_lawful.ensures (c.in-Err-Malformed.ensures.malformed.0 (ap Err c.in-Err-Malformed.field-0-is)))
