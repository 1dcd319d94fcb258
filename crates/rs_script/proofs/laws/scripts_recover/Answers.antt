use Rattle.rs_script.proofs.laws.scripts_recover.Goals as goal

pub returns : goal.returns
returns g c = λ old new input outcomes commands gives.
    c.runs_recover.ensures.recover old.source new.source commands (c.scripts_are_runs.ensures old new input outcomes commands gives)
