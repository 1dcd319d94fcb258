use Rattle.rs_script.proofs.WalkedLines.{scripts_walk}
use Rattle.rs_script.proofs.laws.scripts_make_walks.Goals as goal

pub returns : goal.returns
returns g c =
    scripts_walk g.D.Disk.state g.met.D.Disk.holds c.held_sources_rest.ensures.stands c.runs_go_on.ensures.reading
    c.commands_make_walks.ensures.open c.commands_make_walks.ensures.closed
    c.paths_are_answered.ensures.documents c.paths_are_answered.ensures.bodies
