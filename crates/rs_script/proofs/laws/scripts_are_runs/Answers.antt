use Rattle.rs_script.proofs.Runs.{scripts_are_runs}
use Rattle.rs_script.proofs.laws.scripts_are_runs.Goals as goal

pub returns : goal.returns
returns g c =
    scripts_are_runs g.D.Disk.state c.held_sources_rest.ensures.idle c.runs_go_on.ensures.reading
    c.runs_recover.ensures.idle c.runs_recover.ensures.command c.runs_recover.ensures.join
