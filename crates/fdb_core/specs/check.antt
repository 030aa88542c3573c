pub mod Checking
pub mod Holding
