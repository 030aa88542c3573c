pub mod Receiving
pub mod Sealing
pub mod Ties
