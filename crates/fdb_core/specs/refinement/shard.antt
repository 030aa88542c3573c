pub mod RangeFaults
pub mod Reads
