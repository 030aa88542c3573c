pub mod Admission
pub mod Conflicts
pub mod Messages
pub mod Owners
pub mod Resolvers
pub mod SerialMap
pub mod Splits
pub mod Stamped
