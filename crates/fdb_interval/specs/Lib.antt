pub mod Breakpoints
pub mod Examples
pub mod Heads
pub mod Newer
pub mod Pieces
pub mod Versions
