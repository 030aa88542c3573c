pub mod Failing
pub mod Pushing
pub mod Ties
