use Rattle.rs_script.proofs.Parts.{stops_split}
use Rattle.rs_script.proofs.laws.scripts_split.Goals as goal

pub returns : goal.returns
returns g c = stops_split g.D.Disk.state c.answers_leave_prefixes.ensures
