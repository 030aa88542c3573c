pub mod Moving
pub mod Ticketing
pub mod Windowing
