-- The reasons why a body was not read.
use Rattle.rs_body.specs.declared.read.LoadFault.{LoadFault}
use Rattle.rs_body.specs.declared.read.LoadFault.TheVariants as faults
use Rattle.rs_store.specs.declared.refusal.Refusal.{Refusal}
use Rattle.rs_store.specs.declared.refusal.Refusal.TheVariants.{Device, Damaged, NoMemory}

-- the refusal with the name of a fault
abbrev pub refusal_of_body : LoadFault → Refusal
refusal_of_body faults.Device = Device
refusal_of_body faults.Damaged = Damaged
refusal_of_body faults.NoMemory = NoMemory
