pub mod Exports
mod AssignLemmas
mod BreaksLemmas
mod HeadsLemmas
mod JoinedLemmas
mod NewerPieceLemmas
mod NewerWalkLemmas
mod PartsLemmas
mod PiecesLemmas
mod ReachedLemmas
mod SweepLemmas
mod ThroughoutLemmas
mod VersionsLemmas
