pub mod Cut
pub mod Digests
pub mod HashText
pub mod Hex
pub mod Hashed
pub mod ReadHash
