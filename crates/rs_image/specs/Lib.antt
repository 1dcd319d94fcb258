pub mod Reach
pub mod Whole
pub mod StateOfImage
pub mod Rooted
pub mod Laws
pub mod Loading
