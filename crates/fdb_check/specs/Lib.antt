pub mod Checking
pub mod Judged
pub mod Judging
pub mod RunExamples
pub mod Running
pub mod Spots
pub mod Versions
