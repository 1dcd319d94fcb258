use Rattle.std.proofs.Common.{inl, inr}
use Rattle.rs_recovery.proofs.Reopened.{second_lost, recovered_twice, third_lost}
use Rattle.rs_recovery.proofs.reopening.format_run_recover_twice.Goals as goal

pub returns-in-Err-clause-found : goal.returns-in-Err-clause-found
returns-in-Err-clause-found g c = λ lost.
    inl (second_lost _ c.args.base.now c.args.limit c.args.now c.args.commands.now c.in_ok-acks.acks.items
    c.in_ok-acks.left c.in_ok-acks.ensures.ran c.in-Some.disk c.in-Some.ensures
    c.answers_leave_prefixes.ensures c.in-Err.field-0-0 c.in-Err.halt c.in-Err.ensures.found lost)

pub returns-in-Ok-recover-clause-survives : goal.returns-in-Ok-recover-clause-survives
returns-in-Ok-recover-clause-survives g c =
    recovered_twice _ c.args.base.now c.args.limit c.args.now c.args.commands.now c.in_ok-acks.acks.items
    c.in_ok-acks.left c.in_ok-acks.ensures.ran c.in-Some.disk c.in-Some.ensures
    c.args.more.now c.in-Ok.ran.0.items c.in-Ok.ran.1 c.in-Ok.ensures.ran.0 c.in-Ok.ensures.ran.1
    c.in-Some-third.disk c.in-Some-third.ensures c.in-Ok-recover.source c.in-Ok-recover.ensures.headline

pub returns-in-Err-recover-clause-found : goal.returns-in-Err-recover-clause-found
returns-in-Err-recover-clause-found g c = λ lost.
    inr (third_lost _ c.args.base.now c.args.limit c.args.now c.args.commands.now c.in_ok-acks.acks.items
    c.in_ok-acks.left c.in_ok-acks.ensures.ran c.in-Some.disk c.in-Some.ensures
    c.args.more.now c.in-Ok.ran.0.items c.in-Ok.ran.1 c.in-Ok.ensures.ran.0 c.in-Ok.ensures.ran.1
    c.in-Some-third.disk c.in-Some-third.ensures c.in-Err-recover.field-0-0 c.in-Err-recover.fault c.in-Err-recover.ensures.headline lost)

pub returns-in-Err-clause-halted : goal.returns-in-Err-clause-halted
returns-in-Err-clause-halted g c = c.in-Err.ensures.halted c.args.base.now c.args.limit (g.A.Disk.state c.args.disk).size c.in_ok-acks.ensures.may
