pub mod Blocks
pub mod Outside
pub mod Laws
pub mod Reading
