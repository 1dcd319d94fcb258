use Rattle.rs_store.proofs.Turns.{images_stand, idle_at}
use Rattle.rs_store.proofs.laws.held_sources_rest.Goals as goal

pub returns-clause-stands : goal.returns-clause-stands
returns-clause-stands g c = images_stand g.D.Disk.state g.met.D.Disk.holds

pub returns-clause-idle : goal.returns-clause-idle
returns-clause-idle g c = idle_at g.D.Disk.state g.met.D.Disk.holds
