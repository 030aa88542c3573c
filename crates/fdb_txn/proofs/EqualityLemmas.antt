-- `==` tells exactly whether two values are the same.
use Rattle.std.specs.Prelude.{◌≡◌}
use Rattle.std.proofs.Common.{ap, rules}
use Rattle.std.specs.Bool.{Decides}
use Rattle.std.proofs.lemmas.Bool.Decides.{Decides-and, Decides-eqb}
use Rattle.fdb_keys.proofs.Exports.{range_eq_decides, range_set_eq_decides, items_eq_decides}
use Rattle.fdb_mutations.specs.Equality.{mutation_eq}
use Rattle.fdb_mutations.proofs.Exports.{mutation_eq_decides}
use Rattle.fdb_txn.specs.declared.txn_id.TxnId.{TxnId}
use Rattle.fdb_txn.specs.Equality.{txn_id_eq, spot_eq, move_eq, sealed_eq, batch_eq, entry_eq}
use Rattle.fdb_txn.specs.declared.spot.Spot.{Spot}
use Rattle.fdb_txn.specs.declared.spot.Spot.TheVariants.{Entry as EntrySpot, ReadOnly}
use Rattle.fdb_txn.specs.declared.entry.Move.{Move}
use Rattle.fdb_txn.specs.declared.sealed.Sealed.{Sealed}
use Rattle.fdb_txn.specs.declared.batch.Batch.{Batch}
use Rattle.fdb_txn.specs.declared.entry.Entry.{Entry}

pub txn_id_eq_decides : (a b : TxnId) → Decides (txn_id_eq a b) (a ≡ b)
txn_id_eq_decides a b =
    let parts = Decides-and _ _ (Decides-eqb a.session b.session) (Decides-eqb a.number b.number) in (
      λ equal. let same = parts.0 equal in λ i. record { session = same.0 i; number = same.1 i },
      λ same. parts.1 (ap (λ (id : TxnId). id.session) same, ap (λ (id : TxnId). id.number) same),
    )

pub spot_eq_decides : (a b : Spot) → Decides (spot_eq a b) (a ≡ b)
spot_eq_decides (EntrySpot index place version) (EntrySpot other_index other_place other_version) =
    let parts =
    Decides-and _ _ (Decides-eqb index other_index)
    (Decides-and _ _ (Decides-eqb place other_place) (Decides-eqb version other_version))
    in (
      λ equal. let same = parts.0 equal in λ i. EntrySpot (same.0 i) (same.1.0 i) (same.1.1 i),
      λ same. parts.1 (search rules, (search rules, search rules)),
    )
spot_eq_decides (EntrySpot index place version) (ReadOnly other) = (search rules, search rules)
spot_eq_decides (ReadOnly version) (EntrySpot index place other) = (search rules, search rules)
spot_eq_decides (ReadOnly version) (ReadOnly other) =
    let parts = Decides-eqb version other in (λ equal. ap ReadOnly (parts.0 equal), λ same. parts.1 (search rules))

pub move_eq_decides : (a b : Move) → Decides (move_eq a b) (a ≡ b)
move_eq_decides a b =
    let parts = Decides-and _ _ (range_eq_decides a.range b.range) (Decides-eqb a.to b.to) in (
      λ equal. let same = parts.0 equal in λ i. record { range = same.0 i; to = same.1 i },
      λ same. parts.1 (ap (λ (move : Move). move.range) same, ap (λ (move : Move). move.to) same),
    )

pub sealed_eq_decides : (a b : Sealed) → Decides (sealed_eq a b) (a ≡ b)
sealed_eq_decides a b =
    let parts =
    Decides-and _ _ (txn_id_eq_decides a.id b.id)
    (Decides-and _ _ (Decides-eqb a.read b.read)
    (Decides-and _ _ (range_set_eq_decides a.reads b.reads)
    (Decides-and _ _ (range_set_eq_decides a.writes b.writes)
    (items_eq_decides mutation_eq mutation_eq_decides a.mutations b.mutations))))
    in (
      λ equal.
          let same = parts.0 equal in
          λ i. record {
            id = same.0 i;
            read = same.1.0 i;
            reads = same.1.1.0 i;
            writes = same.1.1.1.0 i;
            mutations =
                same.1.1.1.1 i;
          },
      λ same.
          parts.1 (
            ap (λ (t : Sealed). t.id) same,
            (
              ap (λ (t : Sealed). t.read) same,
              (
                ap (λ (t : Sealed). t.reads) same,
                (ap (λ (t : Sealed). t.writes) same, ap (λ (t : Sealed). t.mutations) same),
              ),
            ),
          ),
    )

pub batch_eq_decides : (a b : Batch) → Decides (batch_eq a b) (a ≡ b)
batch_eq_decides a b = items_eq_decides sealed_eq sealed_eq_decides a b

pub entry_eq_decides : (a b : Entry) → Decides (entry_eq a b) (a ≡ b)
entry_eq_decides a b =
    let parts =
    Decides-and _ _ (Decides-eqb a.version b.version)
    (Decides-and _ _ (Decides-eqb a.prev b.prev)
    (Decides-and _ _ (Decides-eqb a.horizon b.horizon)
    (Decides-and _ _ (items_eq_decides move_eq move_eq_decides a.moves b.moves) (batch_eq_decides a.batch b.batch))))
    in (
      λ equal. let same = parts.0 equal in λ i. record {
        version = same.0 i;
        prev = same.1.0 i;
        horizon = same.1.1.0 i;
        moves = same.1.1.1.0 i;
        batch = same.1.1.1.1 i;
      },
      λ same.
          parts.1 (
            ap (λ (entry : Entry). entry.version) same,
            (
              ap (λ (entry : Entry). entry.prev) same,
              (
                ap (λ (entry : Entry). entry.horizon) same,
                (ap (λ (entry : Entry). entry.moves) same, ap (λ (entry : Entry). entry.batch) same),
              ),
            ),
          ),
    )
