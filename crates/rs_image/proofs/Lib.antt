mod FromBelow
pub mod ForCallers
pub mod Counts
pub mod Bounds
pub mod Taken
pub mod Reached
pub mod Reaching
pub mod Each
pub mod Searched
pub mod Once
pub mod Frame
pub mod ListsRead
pub mod Found
pub mod Standing
pub mod Named
