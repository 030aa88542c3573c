-- Tickets that are accepted one after another make a book.
use Rattle.std.proofs.Common.{◌≡◌, sym, subst, map, arith, ℕ, ◌<◌, ◌≤◌, List, [], ◌∷◌, None}
use Rattle.std.specs.List.{AllByRecursion}
use Rattle.fdb_txn.specs.declared.entry.Entry.{Entry}
use Rattle.fdb_txn.specs.book.History.{AreEntries, HorizonsRise}
use Rattle.fdb_txn.proofs.Exports.{books_are_entries}
use Rattle.fdb_sequencer.specs.declared.ticket.Ticket.{Ticket}
use Rattle.fdb_sequencer.specs.Sequencer.{Sequencer, accept_fault, accepting, moving, windowing}
use Rattle.fdb_sequencer.specs.TicketLaws.{Act, Moves, Takes, Windows, tickets_in, Issued, ReadsBelow, AreIssued}
use Rattle.fdb_sequencer.specs.TicketLaws.{TicketsMakeABook, FirstTicketsAreABook, entry_of}
use Rattle.fdb_sequencer.proofs.TicketLemmas.{Exist, accepted_is_now, pending_exist}
use Rattle.fdb_sequencer.proofs.HorizonLemmas.{HasWindow, accepted-below, accepted-rises, takes_has_window}
use Rattle.fdb_sequencer.proofs.HorizonLemmas.{set_has_window}

-- a ticket's entry follows on the last version, with the pending moves
record Follows (s : Sequencer) (ticket : Ticket) : Type 0 where
  above : s.last < ticket.version
  prev : ticket.prev ≡ s.last
  pending : ticket.pending ≡ s.pending
  below : ticket.horizon < ticket.version

follows : (s : Sequencer) (ticket issued : Ticket) → HasWindow s → accept_fault s ticket ≡ None → issued ≡ ticket
    → Follows s issued
follows s ticket issued has accepted same =
    let now = accepted_is_now s ticket accepted in
    subst (Follows s) (sym same) (record {
      above = now.above;
      prev = now.prev;
      pending = now.pending;
      below = accepted-below s ticket has accepted;
    })

entries_of : (s : Sequencer) (acts : List Act) (issued : List Issued) → HasWindow s → Exist s.resolvers s.pending
    → AreIssued s acts issued → AllByRecursion ReadsBelow issued → AreEntries s.resolvers s.last (map entry_of issued)
entries_of s [] [] has exist are reads = tt
entries_of s [] (one ∷ issued) has exist are reads = absurd (let same = are.1 in cc)
entries_of s (Moves move ∷ acts) issued has exist are reads =
    entries_of (moving s move) acts issued (record { some = has.some; within = has.within })
    (pending_exist s move are.0.0 exist) (are.0.1, are.1) reads
entries_of s (Takes ticket ∷ acts) [] has exist are reads = absurd (let same = are.1 in cc)
entries_of s (Takes ticket ∷ acts) (one ∷ issued) has exist are reads =
    let same : one.0 ≡ ticket = let both = are.1 in cc in
    let others : map (λ (other : Issued). other.0) issued ≡ tickets_in acts = let both = are.1 in cc in
    let follows = follows s ticket one.0 has are.0.0 same in
    let next = takes_has_window s ticket has are.0.0 in
    let rest = entries_of (accepting s ticket) acts issued next tt (are.0.1, others) reads.1 in (
      follows.above,
      (follows.prev, follows.below),
      subst (Exist s.resolvers) (sym follows.pending) exist,
      reads.0,
      subst (λ (t : Ticket). AreEntries s.resolvers t.version (map entry_of issued)) (sym same) rest,
    )
entries_of s (Windows window ∷ acts) issued has exist are reads =
    entries_of (windowing s window) acts issued (set_has_window s window has are.0.0) exist (are.0.1, are.1) reads

horizons_of : (s : Sequencer) (acts : List Act) (issued : List Issued) → AreIssued s acts issued
    → HorizonsRise s.horizon (map entry_of issued)
horizons_of s [] [] are = tt
horizons_of s [] (one ∷ issued) are = absurd (let same = are.1 in cc)
horizons_of s (Moves move ∷ acts) issued are = horizons_of (moving s move) acts issued (are.0.1, are.1)
horizons_of s (Takes ticket ∷ acts) [] are = absurd (let same = are.1 in cc)
horizons_of s (Takes ticket ∷ acts) (one ∷ issued) are =
    let same : one.0 ≡ ticket = let both = are.1 in cc in
    let others : map (λ (other : Issued). other.0) issued ≡ tickets_in acts = let both = are.1 in cc in
    let rest = horizons_of (accepting s ticket) acts issued (are.0.1, others) in
    subst (λ (t : Ticket). (s.horizon ≤ t.horizon) × HorizonsRise t.horizon (map entry_of issued)) (sym same)
    (accepted-rises s ticket are.0.0, rest)
horizons_of s (Windows window ∷ acts) issued are = horizons_of (windowing s window) acts issued (are.0.1, are.1)

pub tickets_make_a_book : TicketsMakeABook
tickets_make_a_book s acts issued legal are reads = (
  entries_of s acts issued (record { some = legal.window.0; within = legal.horizon }) legal.targets are reads,
  horizons_of s acts issued are,
)

-- horizons that rise from one rise from a lesser one
rise-from : (lesser last : ℕ) (entries : List Entry) → lesser ≤ last → HorizonsRise last entries
    → HorizonsRise lesser entries
rise-from lesser last [] within rise = tt
rise-from lesser last (entry ∷ entries) within rise = (omega (arith, within, rise.0), rise.1)

pub first_tickets_are_a_book : FirstTicketsAreABook
first_tickets_are_a_book s acts issued legal first are reads once =
    let made = tickets_make_a_book s acts issued legal are reads in
    let entries : AreEntries s.resolvers 0 (map entry_of issued) =
    subst (λ (last : ℕ). AreEntries s.resolvers last (map entry_of issued)) first made.0 in
    let rise = rise-from 0 s.horizon (map entry_of issued) (omega arith) made.1 in
    ((books_are_entries s.resolvers (map entry_of issued)).1 (entries, once, rise)).0
