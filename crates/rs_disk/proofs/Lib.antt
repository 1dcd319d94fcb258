pub mod ForCallers
pub mod Images
pub mod Steps
pub mod Runs
pub mod Choice
mod HistoryLaws
mod CallParts
