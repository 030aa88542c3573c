use Rattle.std.proofs.Common.{◌≡◌, ◌<◌, ℕ, List, length, take}
use Rattle.std.specs.List.{AllByRecursion}
use Rattle.fdb_txn.specs.book.Book.{DatedMove, head_at}
use Rattle.fdb_owners.specs.Ownership.{resolvers_of}
use Rattle.fdb_owners.specs.OwnersLaws.{AgreesWith}
use Rattle.fdb_proxy.specs.Held.{IsBelow, items_at}
use Rattle.fdb_proxy.specs.Parting.{AreItems}
use Rattle.fdb_proxy.proofs.parting.items_of.Given as goal

abbrev pub invariant-loop-place : goal.invariant-loop-place
invariant-loop-place l =
    record {
      count : length l.lists.items ≡ resolvers_of l.owners;
      below : (i : ℕ) → i < resolvers_of l.owners → AllByRecursion (IsBelow l.place) (items_at l.lists.items i);
      are : (i : ℕ) → i < resolvers_of l.owners → (moves : List DatedMove) → AgreesWith l.owners moves
          → AreItems l.owners.splits (head_at l.version l.horizon moves) i 0 (take l.place l.batch)
          (items_at l.lists.items i);
    }
