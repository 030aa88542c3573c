-- What the own fields of a commit proxy's requests say.
use Rattle.std.specs.Prelude.{◌≡◌, ℕ, ◌+◌, ◌-◌, ◌<◌, ◌≤◌, min, nat_le, List, [], ◌++◌, length, Option, Some, None}
use Rattle.std.specs.Prelude.{if◌then◌else◌, vec_len, vec_capacity}
use Rattle.fdb_txn.specs.book.Transactions.{Transaction}
use Rattle.fdb_txn.specs.declared.batch.Batch.{Batch}
use Rattle.fdb_txn.specs.declared.txn_id.TxnId.{TxnId}
use Rattle.fdb_proxy.specs.declared.names.Names.{Names}
use Rattle.fdb_proxy.specs.declared.requests.Requests.TheInside.{Inside}
use Rattle.fdb_proxy.specs.Names.{has, room_of}
use Rattle.fdb_proxy.specs.Requests.{Requests, is_named, AreNamedApart}

-- the transactions of a batch that may be absent
abbrev pub places_of : Option Batch → List Transaction
places_of (Some batch) = batch
places_of None = []

-- those of the last batch, and then those that wait behind it
abbrev pub all_of : Inside → List Transaction
all_of r = places_of r.last_batch ++ r.list.items

-- how many more may be submitted without memory, where there is room for the ids of the last batch; each takes a
-- place in the list, one among the names, and room for its id where it is refused
abbrev pub spare_of : Inside → ℕ
spare_of r =
    let first = length (places_of r.last_batch) in
    if nat_le first (vec_capacity r.room)
    then min (room_of r.names)
    (min (vec_capacity r.list - vec_len r.list) (vec_capacity r.ids - (first + vec_len r.list)))
    else 0

abbrev pub requests_of : Inside → Requests
requests_of r = record {
  batch = if r.is_in_flight then places_of r.last_batch else [];
  waiting = (if r.is_in_flight then [] else places_of r.last_batch) ++ r.list.items;
  spare = spare_of r;
}

-- the names are the ids of the transactions, each of which has one of its own
pub record AreNamesOf (names : Names) (transactions : List Transaction) : Type 0 where
  pub every : (id : TxnId) → has names id ≡ is_named transactions id
  pub apart : AreNamedApart transactions

-- what holds of the fields of all requests
pub record AreRequests (r : Inside) : Type 0 where
  -- there is room for the ids of all
  pub ids : length (places_of r.last_batch) + vec_len r.list ≤ vec_capacity r.ids
  -- once the ids of those behind the last batch are given away, there is room for those of that batch
  pub room : 0 < vec_len r.list → length (places_of r.last_batch) ≤ vec_capacity r.room
  pub no_ids : r.ids.items ≡ []
  pub none_in_room : r.room.items ≡ []
  -- an id is looked up among the names alone
  pub names : AreNamesOf r.names (all_of r)
