pub mod Arguments
pub mod Connections
pub mod Files
pub mod Serving
