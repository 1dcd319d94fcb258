use Rattle.rs_store.proofs.Answering.{each_moment}
use Rattle.rs_store.proofs.Moments.{holds_all}
use Rattle.rs_store.proofs.laws.runs_leave_prefixes.Goals as goal

pub returns-clause-moments : goal.returns-clause-moments
returns-clause-moments g c = each_moment g.D.Disk.state g.met.D.Disk.holds

pub returns-clause-end : goal.returns-clause-end
returns-clause-end g c = holds_all g.D.Disk.state
