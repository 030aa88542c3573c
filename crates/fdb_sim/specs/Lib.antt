pub mod Commands
pub mod command
