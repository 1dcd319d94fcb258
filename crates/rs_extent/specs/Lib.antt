pub mod Blocks
pub mod Extents
pub mod Words
pub mod Bitmap
pub mod Laws
