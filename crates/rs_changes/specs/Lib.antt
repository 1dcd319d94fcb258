pub mod History
pub mod Filled
pub mod Laws
