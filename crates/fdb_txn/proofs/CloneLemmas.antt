-- A clone of an entry is that entry, since a clone of each of its parts is that part.
use Rattle.std.proofs.Common.{◌≡◌, sym, ◌∙◌}
use Rattle.fdb_keys.specs.declared.range_set.RangeSet.{RangeSet}
use Rattle.fdb_keys.specs.contracts.range_set.RangeSetClone.TheImpl as of_range_sets
use Rattle.fdb_txn.specs.declared.sealed.Sealed.{Sealed}
use Rattle.fdb_txn.specs.declared.batch.Batch.{Batch}
use Rattle.fdb_txn.specs.declared.entry.Entry.{Entry}
use Rattle.fdb_txn.specs.contracts.sealed.SealedClone.TheImpl as of_sealed
use Rattle.fdb_txn.specs.contracts.batch.BatchClone.TheImpl as of_batches
use Rattle.fdb_txn.specs.contracts.entry.EntryClone.TheImpl as of_entries

pub same_set : (a b : RangeSet) → (of_range_sets.ghosts).is_clone a b → b ≡ a
same_set a b copied = sym copied.3 ∙ copied.4 ∙ copied.2

pub same_sealed : (a b : Sealed) → (of_sealed.ghosts).is_clone a b → b ≡ a
same_sealed a b copied =
    let fields = copied.4 in
    let reads = same_set copied.0.reads copied.1.reads fields.1.1.0 in
    let writes = same_set copied.0.writes copied.1.writes fields.1.1.1.0 in
    sym copied.3
    ∙ (λ i. record
    { id = fields.0 i; read = fields.1.0 i; reads = reads i; writes = writes i; mutations = fields.1.1.1.1 i })
    ∙ copied.2

same_batch : (a b : Batch) → (of_batches.ghosts).is_clone a b → b ≡ a
same_batch a b copied =
    sym copied.3 ∙ copied.4 ∙ copied.2

pub same_entry : (a b : Entry) → (of_entries.ghosts).is_clone a b → b ≡ a
same_entry a b copied =
    let batch = same_batch a.batch b.batch copied.1.1.1.1 in
    λ i. record {
      version = copied.0 i;
      prev = copied.1.0 i;
      horizon = copied.1.1.0 i;
      moves = copied.1.1.1.0 i;
      batch = batch i;
    }
