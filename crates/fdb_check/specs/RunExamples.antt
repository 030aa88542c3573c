-- What runs of a batch leave, computed.
use Rattle.std.specs.Prelude.{◌≡◌, ℕ, List, [], ◌∷◌, replicate, Option, Some, None}
use Rattle.std.specs.FinMap.{get, empty}
use Rattle.fdb_mutations.specs.declared.mutation.Mutation.{Mutation}
use Rattle.fdb_mutations.specs.declared.mutation.Mutation.TheVariants.{Set, Stamped}
use Rattle.fdb_txn.specs.book.Transactions.{Transaction}
use Rattle.fdb_proxy.specs.declared.outcome.Outcome.{Outcome}
use Rattle.fdb_proxy.specs.declared.outcome.Outcome.TheVariants as outcome
use Rattle.fdb_check.specs.Running.{map_after}

-- the transaction of a session, with these mutations
abbrev pub of_session : ℕ → List Mutation → Transaction
of_session session mutations =
    record {
      id = record { session = session; number = 0 };
      read = 0;
      reads = [];
      writes = [];
      mutations = mutations;
    }

-- each of two gives a key of its own the stamp of its commit, and the second one sets key 3 as well
abbrev pub two : List Transaction
two =
    of_session 0 (Stamped (1 ∷ []) (replicate 10 120) 0 ∷ [])
    ∷ of_session 1 (Stamped (2 ∷ []) (replicate 10 120) 0 ∷ Set (3 ∷ []) (replicate 10 120) ∷ [])
    ∷ []

-- what stands at a key after so many of them, where this becomes of them
abbrev pub left_at : ℕ → List Outcome → ℕ → Option (List ℕ)
left_at key outcomes count = get (map_after empty two outcomes count) (key ∷ [])

-- the stamp of place p of version 200
abbrev pub stamp_of : ℕ → List ℕ
stamp_of p = 0 ∷ 0 ∷ 0 ∷ 0 ∷ 0 ∷ 0 ∷ 0 ∷ 200 ∷ 0 ∷ p ∷ []

abbrev pub both : List Outcome
both = outcome.Commit 200 0 ∷ outcome.Commit 200 1 ∷ []

-- Each place leaves its own stamp, which is that of its place also behind one that doesn't commit. What doesn't commit
-- leaves nothing, and what waits for no stamp stays as it is.
abbrev pub WorkedRuns : Type 0
WorkedRuns =
    (left_at 1 both 1 ≡ Some (stamp_of 0))
    × (left_at 2 both 1 ≡ None)
    × (left_at 1 both 2 ≡ Some (stamp_of 0))
    × (left_at 2 both 2 ≡ Some (stamp_of 1))
    × (left_at 3 both 2 ≡ Some (replicate 10 120))
    × (left_at 1 (outcome.Conflict ∷ outcome.Commit 200 1 ∷ []) 2 ≡ None)
    × (left_at 2 (outcome.Conflict ∷ outcome.Commit 200 1 ∷ []) 2 ≡ Some (stamp_of 1))
    × (left_at 2 (outcome.Commit 200 0 ∷ outcome.Old ∷ []) 2 ≡ None)
