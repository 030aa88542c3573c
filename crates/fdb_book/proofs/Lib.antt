pub mod Exports
mod AppendLemmas
mod BookLemmas
mod FactLemmas
mod FoundLemmas
mod Known
mod IdLemmas
