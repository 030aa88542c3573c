pub mod CloneLemmas
