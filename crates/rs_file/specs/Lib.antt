pub mod Events
pub mod Replay
pub mod File
pub mod Honest
