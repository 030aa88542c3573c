pub mod Reports
pub mod Tallies
