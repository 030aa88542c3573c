-- What the machine does where keys go over from one resolver to another.
use Rattle.std.specs.Prelude.{◌≡◌, ℕ, List, [], ◌∷◌, Result, Ok, Err, take, codes}
use Rattle.fdb_keys.specs.declared.refusal.Refusal.{Refusal}
use Rattle.fdb_keys.specs.declared.refusal.Refusal.TheVariants.{BadConfig}
use Rattle.fdb_txn.specs.declared.entry.Entry.{Entry}
use Rattle.fdb_txn.specs.laws.Examples.{at_m, entry_of, move_of, reads_and_sets}
use Rattle.fdb_resolver.specs.declared.verdict.Verdict.{Verdict}
use Rattle.fdb_resolver.specs.declared.verdict.Verdict.TheVariants as verdict
use Rattle.fdb_proxy.specs.declared.config.Config.{Config}
use Rattle.fdb_roles.specs.SmallBooks.{from_to}
use Rattle.fdb_machine.specs.headline.Traces.{machine_of_trace}
use Rattle.fdb_machine.specs.machine.Machine.{Machine}
use Rattle.fdb_machine.specs.machine.Steps.{next, answer_of}
use Rattle.fdb_machine.specs.machine.Worlds.{start}
use Rattle.fdb_machine.specs.declared.step.Answered.{Answered}
use Rattle.fdb_machine.specs.declared.step.Answered.TheVariants as answered
use Rattle.fdb_machine.specs.declared.step.AnyStep.TheVariants as step

-- two resolvers, and one of each other role
abbrev pub two_resolvers : Config
two_resolvers = record { proxies = 1; logs = 1; resolver_splits = at_m; shard_splits = []; book = 100 }

-- what a resolver says of entry i of the book, which is the next one for both
abbrev pub says : List Entry → ℕ → ℕ → Result Answered Refusal
says book i resolver =
    answer_of (next (record (start two_resolvers) { book = book; resolvers = i ∷ i ∷ [] }) (step.Resolve i resolver))

abbrev pub verdicts : List (ℕ × Verdict) → Result Answered Refusal
verdicts given = Ok (answered.Verdicts given)

-- At 100 nothing. At 200 the keys from m up to t go over to resolver 0. At a later version a transaction reads p at
-- version 100 and sets b.
abbrev pub read_late : ℕ → List Entry
read_late version =
    entry_of 100 0 [] []
    ∷ entry_of 200 100 (move_of (codes "m") (codes "t") 0 ∷ []) []
    ∷ entry_of 5000000 200 [] []
    ∷ entry_of version 5000000 [] (reads_and_sets 0 100 (codes "p" ∷ []) (codes "b" ∷ []) ∷ [])
    ∷ []

-- The span of the read begins at the horizon. Resolver 1 owned p last at 199, and is asked as long as that lies in the
-- span; resolver 0 is asked in both cases, and says that the transaction is old.
abbrev pub TheSpanBeginsAtTheHorizon : Type 0
TheSpanBeginsAtTheHorizon =
    (says (read_late 5000201) 3 1 ≡ verdicts [])
    × (says (read_late 5000201) 3 0 ≡ verdicts ((0, verdict.Old) ∷ []))
    × (says (read_late 5000199) 3 1 ≡ verdicts [])
    × (says (read_late 5000198) 3 1 ≡ verdicts ((0, verdict.Old) ∷ []))

-- At 100 the keys from a up to z go over to resolver 1, then those from c up to f to resolver 0. At 200 a transaction
-- sets b and d. At 300 another one reads d at version 100 and sets e.
abbrev pub overlapping : List Entry
overlapping =
    entry_of 100 0 (move_of (codes "a") (codes "z") 1 ∷ move_of (codes "c") (codes "f") 0 ∷ []) []
    ∷ entry_of 200 100 [] (reads_and_sets 0 100 [] (codes "b" ∷ codes "d" ∷ []) ∷ [])
    ∷ entry_of 300 200 [] (reads_and_sets 1 100 (codes "d" ∷ []) (codes "e" ∷ []) ∷ [])
    ∷ []

-- Of two moves of one entry the later one counts where both hold a key: resolver 1 is asked for b, and resolver 0 for
-- d, so that resolver 0 tells the conflict on d.
abbrev pub TheLaterMoveCounts : Type 0
TheLaterMoveCounts =
    (says overlapping 1 0 ≡ verdicts ((0, verdict.Yes) ∷ []))
    × (says overlapping 1 1 ≡ verdicts ((0, verdict.Yes) ∷ []))
    × (says overlapping 2 0 ≡ verdicts ((0, verdict.Conflict) ∷ []))
    × (says overlapping 2 1 ≡ verdicts [])

-- once both moves were made, and after a seal
abbrev pub both_moved : Machine
both_moved = machine_of_trace two_resolvers
    (step.Move (from_to (codes "a") (codes "z")) 1 ∷ step.Move (from_to (codes "c") (codes "f")) 0 ∷ [])
    (Ok answered.Done ∷ Ok answered.Done ∷ [])

abbrev pub both_sealed : Machine
both_sealed = machine_of_trace two_resolvers
    (step.Move (from_to (codes "a") (codes "z")) 1 ∷ step.Move (from_to (codes "c") (codes "f")) 0 ∷ step.Seal 0 100
    ∷ []) (Ok answered.Done ∷ Ok answered.Done ∷ Ok (answered.Issued 0 100 0 0) ∷ [])

-- Moves take effect with the next entry, the earliest one first, and with no other. There is none to a resolver that
-- doesn't exist, and none of an empty range.
abbrev pub MovesTakeEffectWithTheNextEntry : Type 0
MovesTakeEffectWithTheNextEntry =
    (both_moved.book ≡ [])
    × (both_moved.pending ≡ move_of (codes "a") (codes "z") 1 ∷ move_of (codes "c") (codes "f") 0 ∷ [])
    × (both_sealed.book ≡ take 1 overlapping)
    × (both_sealed.pending ≡ [])
    × (next (start two_resolvers) (step.Move (from_to (codes "a") (codes "z")) 2) ≡ Err BadConfig)
    × (next (start two_resolvers) (step.Move (from_to (codes "a") (codes "a")) 1) ≡ Err BadConfig)
