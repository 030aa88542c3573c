pub mod Equality
pub mod Limits
pub mod Room
pub mod Turn
pub mod Versions
pub mod book
pub mod laws
pub mod rules
