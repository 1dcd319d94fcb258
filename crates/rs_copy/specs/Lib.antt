pub mod Laying
pub mod Copies
pub mod Copying
