pub mod headline
pub mod invariant
pub mod machine
