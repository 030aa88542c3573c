use Rattle.std.proofs.Common.{◌≡◌, ◌<◌, ℕ, [], length}
use Rattle.fdb_proxy.specs.Held.{items_at}
use Rattle.fdb_proxy.proofs.parting.no_items.Given as goal

abbrev pub invariant-loop : goal.invariant-loop
invariant-loop l =
    record {
      count : length l.lists.items ≡ l.counter;
      empty : (i : ℕ) → i < l.counter → items_at l.lists.items i ≡ [];
    }
