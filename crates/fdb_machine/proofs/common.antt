pub mod FaultLemmas
pub mod SumLemmas
