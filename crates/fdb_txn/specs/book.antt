pub mod Book
pub mod History
pub mod Once
pub mod Places
pub mod Size
pub mod Transactions
