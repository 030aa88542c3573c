pub mod Refusals
pub mod Stops
pub mod Streams
