pub mod Texts
pub mod Sets
pub mod Answers
