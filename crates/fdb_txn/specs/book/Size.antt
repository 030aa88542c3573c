-- How large a transaction is, in bytes.
use Rattle.std.specs.Prelude.{ℕ, ◌+◌, ◌≤◌, nat_lt, List, length, sum_by, Option, Some, None, if◌then◌else◌}
use Rattle.fdb_keys.specs.Ranges.{Range}
use Rattle.fdb_keys.specs.declared.refusal.Refusal.{Refusal}
use Rattle.fdb_keys.specs.declared.refusal.Refusal.TheVariants.{TransactionTooLarge}
use Rattle.fdb_mutations.specs.Mutations.{mutation_size}
use Rattle.fdb_txn.specs.Limits.{size_limit}
use Rattle.fdb_txn.specs.book.Transactions.{Transaction, NamesWrites}

-- both bounds of each range
abbrev pub bounds_size : List Range → ℕ
bounds_size ranges = sum_by (λ range. length range.begin + length range.end) ranges

-- the bounds of the read set and of the write set, and each mutation
abbrev pub size_of : Transaction → ℕ
size_of t = bounds_size t.reads + bounds_size t.writes + sum_by mutation_size t.mutations

-- why a transaction is not sealed
abbrev pub size_fault : Transaction → Option Refusal
size_fault t = if nat_lt size_limit (size_of t) then Some TransactionTooLarge else None

-- a transaction may be sealed: its write set has all that its mutations name, and it is not too large
pub record MaySeal (t : Transaction) : Type 0 where
  pub named : NamesWrites t
  pub within : size_of t ≤ size_limit
