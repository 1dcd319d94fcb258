mod FromBelow
pub mod ForCallers
pub mod Blocks
pub mod Contents
pub mod Payloads
pub mod Ready
pub mod Phases
pub mod Runs
pub mod Headers
pub mod Closed
