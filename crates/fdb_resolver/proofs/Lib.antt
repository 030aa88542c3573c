pub mod Exports
mod BookLemmas
mod RuleLemmas
