mod checking
mod common
mod refinement
