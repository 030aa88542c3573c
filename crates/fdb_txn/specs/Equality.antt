-- What `==` says: two values are equal exactly where they are the same.
use Rattle.std.specs.Prelude.{Bool}
use Rattle.fdb_txn.specs.declared.txn_id.TxnId.{TxnId}
use Rattle.fdb_txn.specs.declared.spot.Spot.{Spot}
use Rattle.fdb_txn.specs.declared.entry.Move.{Move}
use Rattle.fdb_txn.specs.declared.entry.Entry.{Entry}
use Rattle.fdb_txn.specs.declared.sealed.Sealed.{Sealed}
use Rattle.fdb_txn.specs.declared.batch.Batch.{Batch}
use Rattle.fdb_txn.specs.contracts.txn_id.TxnIdPartialEq.TheImpl as of_ids
use Rattle.fdb_txn.specs.contracts.spot.SpotPartialEq.TheImpl as of_spots
use Rattle.fdb_txn.specs.contracts.entry.MovePartialEq.TheImpl as of_moves
use Rattle.fdb_txn.specs.contracts.entry.EntryPartialEq.TheImpl as of_entries
use Rattle.fdb_txn.specs.contracts.sealed.SealedPartialEq.TheImpl as of_sealed
use Rattle.fdb_txn.specs.contracts.batch.BatchPartialEq.TheImpl as of_batches

-- `==` of two ids
abbrev pub txn_id_eq : TxnId → TxnId → Bool
txn_id_eq = (of_ids.ghosts).eq

-- `==` of two spots
abbrev pub spot_eq : Spot → Spot → Bool
spot_eq = (of_spots.ghosts).eq

-- `==` of two moves
abbrev pub move_eq : Move → Move → Bool
move_eq = (of_moves.ghosts).eq

-- `==` of two sealed transactions
abbrev pub sealed_eq : Sealed → Sealed → Bool
sealed_eq = (of_sealed.ghosts).eq

-- `==` of two batches
abbrev pub batch_eq : Batch → Batch → Bool
batch_eq = (of_batches.ghosts).eq

-- `==` of two entries
abbrev pub entry_eq : Entry → Entry → Bool
entry_eq = (of_entries.ghosts).eq
