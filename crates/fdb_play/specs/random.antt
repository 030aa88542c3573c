pub mod Examples
pub mod Reports
pub mod Runs
pub mod Tallies
