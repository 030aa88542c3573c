pub mod Exports
mod AboveLemmas
mod AddedLemmas
mod FaultLemmas
mod KeptLemmas
mod ListedLemmas
mod NextLemmas
mod PlacesLemmas
mod PopLemmas
mod PushLemmas
mod RisingLemmas
mod TagSetLemmas
mod ToldLemmas
mod WaitingLemmas
