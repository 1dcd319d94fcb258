mod FromBelow
pub mod ForCallers
pub mod Sets
pub mod Torn
pub mod KeptBlocks
pub mod Pieces
pub mod Only
