mod FromBelow
mod Replaying
mod Following
