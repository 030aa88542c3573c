pub mod Examples
pub mod Logs
pub mod Messages
pub mod Peeks
pub mod Places
pub mod TagSets
pub mod Waiting
