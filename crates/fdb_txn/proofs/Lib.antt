pub mod Exports
mod CloneLemmas
mod EqualityLemmas
mod NumberMaps
mod RoomLemmas
mod VersionsLemmas
mod book
mod rules
