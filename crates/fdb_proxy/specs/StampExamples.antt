-- What logs are sent of transactions that wait for the stamp of their commit, computed.
use Rattle.std.specs.Prelude.{◌≡◌, ℕ, false, List, [], ◌∷◌, map, replicate}
use Rattle.fdb_mutations.specs.declared.mutation.Mutation.{Mutation}
use Rattle.fdb_mutations.specs.declared.mutation.Mutation.TheVariants.{Set, Stamped}
use Rattle.fdb_txn.specs.book.Transactions.{Transaction}
use Rattle.fdb_log.specs.declared.message.LogMsg.{LogMsg}
use Rattle.fdb_log.specs.declared.message.Tagged.{Tagged}
use Rattle.fdb_proxy.specs.declared.outcome.Outcome.{Outcome}
use Rattle.fdb_proxy.specs.declared.outcome.Outcome.TheVariants as outcome
use Rattle.fdb_proxy.specs.Examples.{first_of, here}
use Rattle.fdb_proxy.specs.Logging.{answers_by, messages_by}

-- the transaction of the session, which does just this
abbrev pub does : ℕ → Mutation → Transaction
does session mutation = record (first_of session) { mutations = mutation ∷ [] }

-- key 7 gets the stamp of the commit and a byte behind it
abbrev pub waits : Mutation
waits = Stamped (7 ∷ []) (replicate 11 120) 0

-- and has it, at place p of version 200
abbrev pub waited : ℕ → Mutation
waited p = Set (7 ∷ []) (0 ∷ 0 ∷ 0 ∷ 0 ∷ 0 ∷ 0 ∷ 0 ∷ 200 ∷ 0 ∷ p ∷ 120 ∷ [])

-- key 8 gets a value that no stamp changes
abbrev pub sets : Mutation
sets = Set (8 ∷ []) (replicate 11 120)

-- the mutations, with their places, of which the only log is told, where this becomes of the batch
abbrev pub told : List Transaction → List Outcome → List (List (ℕ × Mutation))
told batch outcomes =
    map (λ (message : LogMsg). map (λ (sent : Tagged). (sent.place, sent.mutation)) message.body)
    (messages_by [] 1 batch (record {
      position = here;
      answers = answers_by batch outcomes;
      acknowledged = false ∷ [];
    }))

-- Two places of a batch have stamps of one version that differ in the place, also behind a place that doesn't commit.
-- Nothing is told of what conflicts and of what is old. Each mutation of a transaction has the same stamp, and one that
-- doesn't wait for it stays as it is.
abbrev pub WorkedStamps : Type 0
WorkedStamps =
    (told (does 0 waits ∷ does 1 waits ∷ []) (outcome.Commit 200 0 ∷ outcome.Commit 200 1 ∷ [])
    ≡ ((0, waited 0) ∷ (1, waited 1) ∷ []) ∷ [])
    × (told (does 0 waits ∷ does 1 waits ∷ []) (outcome.Conflict ∷ outcome.Commit 200 1 ∷ [])
    ≡ ((1, waited 1) ∷ []) ∷ [])
    × (told (does 0 waits ∷ does 1 waits ∷ []) (outcome.Old ∷ outcome.Conflict ∷ []) ≡ [] ∷ [])
    × (told (record (first_of 0) { mutations = waits ∷ sets ∷ waits ∷ [] } ∷ []) (outcome.Commit 200 0 ∷ [])
    ≡ ((0, waited 0) ∷ (0, sets) ∷ (0, waited 0) ∷ []) ∷ [])
