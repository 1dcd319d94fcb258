mod FromBelow
pub mod ForCallers
pub mod Bounds
pub mod Chunks
pub mod Documents
pub mod Escaping
pub mod Items
pub mod LawfulSizes
pub mod Lengths
pub mod Lines
pub mod Parts
pub mod Plain
pub mod Runs
pub mod Sizes
