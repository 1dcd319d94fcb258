pub mod Named
pub mod Filled
pub mod Catalogue
pub mod Laws
