-- What `==` says: two tickets are equal exactly where they are the same.
use Rattle.std.specs.Prelude.{Bool, ◌&&◌, ◌==◌}
use Rattle.std.specs.Cmp.Lexicographic.{pointwise}
use Rattle.fdb_txn.specs.Equality.{move_eq}
use Rattle.fdb_sequencer.specs.declared.dated.Dated.{Dated}
use Rattle.fdb_sequencer.specs.declared.ticket.Ticket.{Ticket}
use Rattle.fdb_sequencer.specs.contracts.ticket.TicketPartialEq.TheImpl as of_tickets

-- `==` of two lists of moves with their versions
abbrev pub dated_eq : Dated → Dated → Bool
dated_eq a b = (a.version == b.version) && pointwise move_eq a.moves b.moves

-- `==` of two tickets
abbrev pub ticket_eq : Ticket → Ticket → Bool
ticket_eq = (of_tickets.ghosts).eq
