pub mod check
pub mod refinement
