pub mod Examples
pub mod Judging
pub mod Reports
pub mod Rings
pub mod Runs
pub mod Stops
pub mod Sums
pub mod Workloads
