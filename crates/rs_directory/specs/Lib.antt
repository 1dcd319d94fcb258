pub mod Limit
pub mod Directory
pub mod Laws
pub mod Reading
