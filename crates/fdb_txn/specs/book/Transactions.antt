-- What a sealed transaction is.
use Rattle.std.specs.Prelude.{◌≡◌, ℕ, Bool, true, List, fold}
use Rattle.std.specs.List.{list_any}
use Rattle.fdb_keys.specs.Points.{Point}
use Rattle.fdb_keys.specs.Insertion.{with_range}
use Rattle.fdb_keys.specs.Ranges.{Range, in_set}
use Rattle.fdb_mutations.specs.declared.mutation.Mutation.{Mutation}
use Rattle.fdb_mutations.specs.Mutations.{names, named_range}
use Rattle.fdb_txn.specs.declared.txn_id.TxnId.{TxnId}

-- a read version, a read set, a write set and a list of mutations, under an id
pub record Transaction : Type 0 where
  pub id : TxnId
  pub read : ℕ
  pub reads : List Range
  pub writes : List Range
  pub mutations : List Mutation

-- some mutation of the list names the point
abbrev pub some_names : List Mutation → Point → Bool
some_names mutations x = list_any (λ mutation. names mutation x) mutations

-- every point that a mutation names is in the write set
abbrev pub NamesWrites : Transaction → Type 0
NamesWrites t = (x : Point) → some_names t.mutations x ≡ true → in_set t.writes x ≡ true

-- a write set with all that the mutations name
abbrev pub with_named : List Range → List Mutation → List Range
with_named writes mutations = fold (λ (set : List Range) (mutation : Mutation). with_range (named_range mutation) set)
    writes mutations
