mod FromBelow
pub mod ForCallers
pub mod Rising
pub mod Filled
pub mod Joined
pub mod MovedPages
pub mod Passed
