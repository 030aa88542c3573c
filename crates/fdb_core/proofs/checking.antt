pub mod HoldingLemmas
pub mod SoundChecks
