use Rattle.rs_script.proofs.Transcripts.{script_folds, script_holds}
use Rattle.rs_script.proofs.laws.transcript_folds.Goals as goal

pub returns-clause-told : goal.returns-clause-told
returns-clause-told g c = script_folds g.D.Disk.state

pub returns-clause-held : goal.returns-clause-held
returns-clause-held g c = script_holds g.D.Disk.state
