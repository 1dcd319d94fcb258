pub mod ForCallers
pub mod Counting
pub mod MomentTexts
