pub mod Options
pub mod Tasks
