use Rattle.rs_script.proofs.Replies.{scripts_do}
use Rattle.rs_script.proofs.ToldNames.{scripts_tell_names}
use Rattle.rs_script.proofs.laws.scripts_do_statements.Goals as goal

pub returns-clause-done : goal.returns-clause-done
returns-clause-done g c =
    scripts_do g.D.Disk.state c.held_sources_rest.ensures.idle c.runs_go_on.ensures.reading c.runs_go_on.ensures.command c.runs_go_on.ensures.join

pub returns-clause-names : goal.returns-clause-names
returns-clause-names g c = scripts_tell_names g.D.Disk.state g.met.D.Disk.holds c.held_sources_rest.ensures.stands c.held_names_are_lawful.ensures
