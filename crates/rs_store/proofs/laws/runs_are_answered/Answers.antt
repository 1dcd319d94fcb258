use Rattle.rs_store.proofs.Answering.{are_answered, holds_behind}
use Rattle.rs_store.proofs.laws.runs_are_answered.Goals as goal

pub returns-clause-answered : goal.returns-clause-answered
returns-clause-answered g c = are_answered g.D.Disk.state g.met.D.Disk.holds

pub returns-clause-holds : goal.returns-clause-holds
returns-clause-holds g c = λ s t old commands acks new held turn is. holds_behind g.D.Disk.state g.met.D.Disk.holds s old commands acks new held turn t is
