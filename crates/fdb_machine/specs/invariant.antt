pub mod Invariant
pub mod Once
pub mod Places
