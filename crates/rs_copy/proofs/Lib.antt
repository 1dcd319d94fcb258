mod FromBelow
pub mod ForCallers
pub mod Answered
pub mod Ended
pub mod FullPages
pub mod Handed
pub mod Laid
pub mod Meanwhile
pub mod MovedBodies
pub mod Records
pub mod Roomy
pub mod Runs
pub mod Taking
pub mod Told
pub mod Whole
