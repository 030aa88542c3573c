-- Tickets that any proxy may learn whose batch read below their versions, and that forgot no owner from their horizons
-- on.
use Rattle.std.specs.Prelude.{◌≡◌, ◌<◌, ◌-◌, ℕ, suc, List}
use Rattle.fdb_txn.specs.Limits.{window}
use Rattle.fdb_sequencer.specs.TicketLaws.{AreRisingUpTo, GoToResolvers}
use Rattle.fdb_sequencer.specs.declared.dated.Dated.{Dated}
use Rattle.fdb_sequencer.specs.declared.ticket.Ticket.{Ticket}

-- the moves go to the first resolver, at versions that rise up to this one
pub record AreMovesOf (version : ℕ) (moves : List Dated) : Type 0 where
  pub rising : AreRisingUpTo version moves
  pub targets : (others : ℕ) → GoToResolvers (suc others) moves

-- its moves do, up to its version, and its horizon is that of the first window
pub record IsOfMoves (ticket : Ticket) : Type 0 where
  pub moves : AreMovesOf ticket.version ticket.moves
  pub horizon : ticket.horizon ≡ ticket.version - window
  pub below : ticket.horizon < ticket.version
