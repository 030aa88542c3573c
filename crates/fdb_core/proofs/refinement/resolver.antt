pub mod Failing
pub mod Resolving
