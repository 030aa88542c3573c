pub mod play
pub mod print
pub mod random
pub mod script
