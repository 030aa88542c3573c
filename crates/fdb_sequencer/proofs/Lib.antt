pub mod Exports
mod BookLemmas
mod EqualityLemmas
mod HandingLemmas
mod HorizonLemmas
mod MoveLemmas
mod ReportLemmas
mod TicketLemmas
