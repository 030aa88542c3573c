-- The ids of a commit proxy's requests.
use Rattle.std.specs.Prelude.{ℕ, Bool, ◌==◌, ◌&&◌}
use Rattle.std.specs.HashSet.{contains, spare}
use Rattle.fdb_txn.specs.declared.txn_id.TxnId.{TxnId}
use Rattle.fdb_proxy.specs.declared.names.Names.{Names}

-- whether the id is one of them
abbrev pub has : Names → TxnId → Bool
has names id = contains (λ (x y : ℕ × ℕ). x.0 == y.0 && x.1 == y.1) names.ids (id.session, id.number)

-- how many more fit without memory
abbrev pub room_of : Names → ℕ
room_of names = spare names.ids
