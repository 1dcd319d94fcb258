-- The meaning of a fault of its fields for a page or a directory.
use Rattle.rs_body.specs.declared.read.LoadFault.{LoadFault}
use Rattle.rs_body.specs.declared.read.LoadFault.TheVariants.{Damaged, NoMemory}
use Rattle.rs_record.specs.declared.fault.ValueFault.{ValueFault}
use Rattle.rs_record.specs.declared.fault.ValueFault.TheVariants.{Malformed, NoMemory as NoFieldMemory}

-- fields that were not read
abbrev pub fault_of_fields : ValueFault → LoadFault
fault_of_fields Malformed = Damaged
fault_of_fields NoFieldMemory = NoMemory
