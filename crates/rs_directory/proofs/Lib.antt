mod FromBelow
pub mod ForCallers
pub mod Pieces
pub mod Limits
pub mod History
pub mod Headers
pub mod PartLaws
pub mod Entries
pub mod OneDirectory
pub mod Naming
