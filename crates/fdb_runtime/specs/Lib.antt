pub mod Databases
pub mod Statuses
pub mod Walks
pub mod Works
pub mod Writing
