use Rattle.rs_script.proofs.Grouped.{IsScript-once}
use Rattle.rs_script.proofs.laws.one_script.Goals as goal

pub returns : goal.returns
returns c = IsScript-once
