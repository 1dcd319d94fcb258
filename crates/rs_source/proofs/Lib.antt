pub mod Accepting
pub mod Beginning
pub mod Connecting
pub mod Copying
pub mod Examples
pub mod Opening
