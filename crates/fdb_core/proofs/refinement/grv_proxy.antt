pub mod Granting
