pub mod Slots
pub mod Commit
pub mod Format
pub mod Laws
