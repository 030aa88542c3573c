pub mod ReadFaults
pub mod Reading
pub mod Sessions
pub mod Submitting
