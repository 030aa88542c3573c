use Rattle.std.proofs.Common.{◌≡◌, ◌++◌, take}
use Rattle.fdb_proxy.proofs.requests.push_copies.Given as goal

abbrev pub invariant-loop-transaction : goal.invariant-loop-transaction
invariant-loop-transaction l = l.copies ≡ l.initial.copies ++ take l.transaction-index l.transactions
