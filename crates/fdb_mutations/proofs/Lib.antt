pub mod Exports
mod Effects
mod EqualityLemmas
mod FirstPairLemmas
mod MapsLemmas
mod NumbersLemmas
mod OrderedLemmas
mod PairsLemmas
mod ScannedLemmas
mod StampLemmas
mod TakenLemmas
