use Rattle.rs_recovery.proofs.OneSession.{survives, is_found}
use Rattle.rs_recovery.proofs.surviving.format_run_recover.Goals as goal

pub returns-in-Ok-recover-clause-survives : goal.returns-in-Ok-recover-clause-survives
returns-in-Ok-recover-clause-survives c =
    survives c.args.base.now c.args.limit c.args.now c.args.commands.now c.in_ok-acks.acks.items c.in_ok-acks.left c.args.choice.now
    c.in_ok-acks.ensures.ran c.in-Ok.disk c.in-Ok.ensures.image c.in-Ok.ensures.resting c.in-Ok-recover.source c.in-Ok-recover.ensures.headline

pub returns-in-Err-clause-found : goal.returns-in-Err-clause-found
returns-in-Err-clause-found c =
    is_found c.args.base.now c.args.limit c.args.now c.args.commands.now c.in_ok-acks.acks.items c.in_ok-acks.left c.args.choice.now
    c.in_ok-acks.ensures.ran c.in-Ok.disk c.in-Ok.ensures.image c.in-Ok.ensures.resting c.in-Err.field-0-0 c.in-Err.fault c.in-Err.ensures.headline
