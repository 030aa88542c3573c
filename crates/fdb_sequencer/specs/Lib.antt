pub mod Cores
pub mod Equality
pub mod Examples
pub mod MoveFields
pub mod Moves
pub mod Sequencer
pub mod TicketLaws
