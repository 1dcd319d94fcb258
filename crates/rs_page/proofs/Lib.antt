mod FromBelow
pub mod ForCallers
pub mod Apart
pub mod OneList
pub mod Replaced
pub mod Standing
pub mod Filled
