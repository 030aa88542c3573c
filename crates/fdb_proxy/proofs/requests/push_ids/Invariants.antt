use Rattle.std.proofs.Common.{◌≡◌, ◌+◌, ◌++◌, map, take, vec_len}
use Rattle.std.specs.Prelude.{vec_capacity}
use Rattle.fdb_txn.specs.book.Transactions.{Transaction}
use Rattle.fdb_proxy.proofs.requests.push_ids.Given as goal

abbrev pub invariant-loop-transaction : goal.invariant-loop-transaction
invariant-loop-transaction l =
    record {
      names :
          l.ids.items
          ≡ l.initial.ids.items ++ map (λ (t : Transaction). t.id) (take l.transaction-index l.transactions);
      len : vec_len l.ids ≡ vec_len l.initial.ids + l.transaction-index;
      capacity : vec_capacity l.ids ≡ vec_capacity l.initial.ids;
    }
