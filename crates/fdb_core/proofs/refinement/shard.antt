pub mod Failing
pub mod Pages
pub mod Pulling
pub mod Reads
pub mod Steps
