pub mod Items
pub mod Tickets
