pub mod ForCallers
pub mod Faults
pub mod Growth
