use Rattle.rs_script.proofs.Transcripts.{script_same}
use Rattle.rs_script.proofs.laws.one_transcript.Goals as goal

pub returns : goal.returns
returns g c = script_same g.D.Disk.state
