use Rattle.rs_recovery.proofs.Prefixes.{runs_recover, idle_is_run, command_is_run, runs_join}
use Rattle.rs_recovery.proofs.laws.runs_recover.Goals as goal

pub returns-clause-recover : goal.returns-clause-recover
returns-clause-recover g c = runs_recover g.D.Disk.state c.laws_below.ensures c.turns_go_on.ensures.calls

pub returns-clause-idle : goal.returns-clause-idle
returns-clause-idle g c = idle_is_run g.D.Disk.state c.laws_below.ensures

pub returns-clause-command : goal.returns-clause-command
returns-clause-command g c = command_is_run g.D.Disk.state c.laws_below.ensures c.runs_go_on.ensures.command

pub returns-clause-join : goal.returns-clause-join
returns-clause-join g c = runs_join g.D.Disk.state c.laws_below.ensures c.turns_go_on.ensures.join
