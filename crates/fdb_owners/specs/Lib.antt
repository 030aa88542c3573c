pub mod Examples
pub mod Histories
pub mod Learning
pub mod Ownership
pub mod OwnersLaws
pub mod Parts
pub mod Pieces
pub mod Spreads
