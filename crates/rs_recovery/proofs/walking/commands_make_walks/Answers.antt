use Rattle.rs_recovery.proofs.Walked.{commands_walk, closed_commands}
use Rattle.rs_recovery.proofs.walking.commands_make_walks.Goals as goal

pub returns-clause-open : goal.returns-clause-open
returns-clause-open g c = commands_walk g.D.Disk.state g.met.D.Disk.holds c.held_sources_rest.ensures.stands

pub returns-clause-closed : goal.returns-clause-closed
returns-clause-closed g c = closed_commands g.D.Disk.state
