use Rattle.std.proofs.Common.{◌≡◌, Err, ap}
use Rattle.rs_model.specs.Step.{step}
use Rattle.rs_model.proofs.state.State.apply_or_skip.Goals as goal

pub returns-in-Err-Refused : goal.returns-in-Err-Refused
returns-in-Err-Refused c =
    let r = c.in-Err-Refused.field-0-0 in
    let refused : step c.args.self.now c.args.command c.args.now ≡ Err r = (c.in-Err-Refused.ensures.refused r).0 (ap Err c.in-Err-Refused.field-0-is) in
    rw refused c.in-Err-Refused.ensures.unchanged
