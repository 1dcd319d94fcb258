mod FromBelow
pub mod ForCallers
pub mod Shown
pub mod BoundRecords
pub mod Joined
pub mod MovedPages
