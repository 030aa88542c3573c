pub mod Exports
mod common
mod headline
mod invariant
mod machine
mod readings
