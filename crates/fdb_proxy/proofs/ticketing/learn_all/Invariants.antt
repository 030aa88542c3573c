use Rattle.std.proofs.Common.{◌≡◌, ◌≤◌, List, take, drop}
use Rattle.fdb_txn.specs.book.Book.{DatedMove}
use Rattle.fdb_owners.specs.OwnersLaws.{AgreesWith}
use Rattle.fdb_proxy.specs.CommitProxies.{moves_with}
use Rattle.fdb_proxy.proofs.TicketLemmas.{AreAbove}
use Rattle.fdb_proxy.proofs.ticketing.learn_all.Given as goal

abbrev pub invariant-loop-one : goal.invariant-loop-one
invariant-loop-one l = record {
  agrees : (moves : List DatedMove) → AgreesWith l.initial.owners moves
      → AgreesWith l.owners (moves_with (take l.one-index l.dated) moves);
  splits : l.owners.splits ≡ l.initial.owners.splits;
  floor : l.owners.floor ≡ l.initial.owners.floor;
  last : l.owners.last ≤ l.version;
  above : AreAbove l.owners.last (drop l.one-index l.dated);
}
