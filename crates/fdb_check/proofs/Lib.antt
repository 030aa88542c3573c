pub mod Exports
mod EntryLemmas
mod JudgedLemmas
mod JudgingLemmas
mod ReplayLemmas
mod RunningLemmas
mod SpotLemmas
mod StandingLemmas
mod VisitLemmas
