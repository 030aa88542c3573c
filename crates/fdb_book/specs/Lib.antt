pub mod Appending
pub mod Examples
pub mod Facts
pub mod Fronts
pub mod Laws
pub mod Ids
