use Rattle.std.proofs.Common.{◌≡◌, ◌&&◌, not, take}
use Rattle.fdb_txn.specs.declared.txn_id.TxnId.{TxnId}
use Rattle.fdb_proxy.specs.Names.{has}
use Rattle.fdb_proxy.specs.Requests.{is_named}
use Rattle.fdb_proxy.proofs.names.Names.remove_all.Given as goal

abbrev pub invariant-loop-transaction : goal.invariant-loop-transaction
invariant-loop-transaction l =
    (id : TxnId)
    → has l.self id ≡ (not (is_named (take l.transaction-index l.transactions) id) && has l.initial.self id)
