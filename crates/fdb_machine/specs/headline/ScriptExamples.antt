-- Whole scripts, each a list of steps beside their answers: what every step of a world has to answer in them.
use Rattle.std.specs.Prelude.{ℕ, true, false, List, [], ◌∷◌, ◌++◌, map, Option, Some, None, Result, Ok, Err, codes}
use Rattle.fdb_keys.specs.Points.{Point}
use Rattle.fdb_keys.specs.declared.refusal.Refusal.{Refusal}
use Rattle.fdb_keys.specs.declared.refusal.Refusal.TheVariants as refusal
use Rattle.fdb_mutations.specs.declared.mutation.Mutation.TheVariants.{Set, Clear, Stamped}
use Rattle.fdb_resolver.specs.declared.verdict.Verdict.{Verdict}
use Rattle.fdb_resolver.specs.declared.verdict.Verdict.TheVariants as verdict
use Rattle.fdb_proxy.specs.declared.config.Config.{Config}
use Rattle.fdb_proxy.specs.declared.outcome.Outcome.{Outcome}
use Rattle.fdb_proxy.specs.declared.outcome.Outcome.TheVariants as outcome
use Rattle.fdb_roles.specs.SmallBooks.{from_to}
use Rattle.fdb_machine.specs.headline.Traces.{machine_of_trace, IsTraceOf}
use Rattle.fdb_machine.specs.machine.Failures.{none_failed}
use Rattle.fdb_machine.specs.declared.step.Answered.{Answered}
use Rattle.fdb_machine.specs.declared.step.Answered.TheVariants as answered
use Rattle.fdb_machine.specs.machine.AnyStep.{Step}
use Rattle.fdb_machine.specs.declared.step.AnyStep.TheVariants as step

-- a step with its answer
abbrev pub Line : Type 0
Line = Step × Result Answered Refusal

abbrev pub steps_of : List Line → List Step
steps_of lines = map (λ (line : Line). line.0) lines

abbrev pub answers_of : List Line → List (Result Answered Refusal)
answers_of lines = map (λ (line : Line). line.1) lines

-- the lines are a trace: a world answers each step so, from the first one on
abbrev pub IsScript : Config → List Line → Type 0
IsScript config lines = IsTraceOf config (steps_of lines) (answers_of lines)
    (record { machine = machine_of_trace config (steps_of lines) (answers_of lines); failed = none_failed config })

-- so many proxies of each kind, two resolvers that part the keys at m, one log and one shard
abbrev pub parted_at_m : ℕ → Config
parted_at_m proxies =
    record { proxies = proxies; logs = 1; resolver_splits = codes "m" ∷ []; shard_splits = []; book = 100 }

abbrev pub gives : Step → Answered → Line
gives step answer = (step, Ok answer)

abbrev pub done : Step → Line
done step = (step, Ok answered.Done)

abbrev pub refused : Step → Refusal → Line
refused step why = (step, Err why)

-- the session asks at the read-version proxy with the number 0
abbrev pub asks : ℕ → Line
asks session = done (step.Ask session 0)

abbrev pub granted : List (ℕ × ℕ) → Line
granted served = gives (step.Grant 0) (answered.Granted served)

abbrev pub sets : ℕ → Point → List ℕ → Line
sets session key value = done (step.Write session (Set key value))

abbrev pub submits : ℕ → Line
submits session = done (step.Submit session 0)

abbrev pub reads : ℕ → Point → Option (List ℕ) → Line
reads session key value = gives (step.Get session key false) (answered.Value value)

-- the first proxy's batch goes into the book
abbrev pub sealed : (advance entry version prev places : ℕ) → Line
sealed advance entry version prev places =
    gives (step.Seal 0 advance) (answered.Issued entry version prev places)

abbrev pub reported : ℕ → Line
reported version = gives (step.Report 0) (answered.Version version)

abbrev pub told : List (ℕ × Outcome) → Line
told replies = gives (step.Answer 0) (answered.Answers replies)

-- the log takes the entry, and the first proxy hears of it
abbrev pub logged : ℕ → List Line
logged entry = done (step.Push entry 0) ∷ done (step.Logged entry 0) ∷ []

-- the first proxy's batch goes through all that follows its entry: what the two resolvers say of it, what becomes of
-- its places, its version, and what its clients are told
abbrev pub driven : (entry : ℕ) (first second : List (ℕ × Verdict)) (became : List Outcome) (version : ℕ)
    (replies : List (ℕ × Outcome)) → List Line
driven entry first second became version replies =
    gives (step.Resolve entry 0) (answered.Verdicts first) ∷ gives (step.Resolve entry 1) (answered.Verdicts second)
    ∷ done (step.Verdict entry 0) ∷ done (step.Verdict entry 1)
    ∷ gives (step.Decide 0) (answered.Decided became) ∷ logged entry ++ reported version ∷ told replies ∷ []

-- an entry of nobody
abbrev pub nobody_driven : ℕ → ℕ → List Line
nobody_driven entry version = driven entry [] [] [] version []

-- A transaction that begins after a commit was acknowledged reads it, or is refused until the shard has it; one that
-- began before reads what was there.
abbrev pub freshness : List Line
freshness =
    asks 0 ∷ granted ((0, 0) ∷ []) ∷ sets 0 (codes "a") (codes "1") ∷ submits 0 ∷ sealed 100 0 100 0 1
    ∷ gives (step.Resolve 0 0) (answered.Verdicts ((0, verdict.Yes) ∷ []))
    ∷ gives (step.Resolve 0 1) (answered.Verdicts [])
    ∷ done (step.Verdict 0 0) ∷ gives (step.Decide 0) (answered.Decided (outcome.Commit 100 0 ∷ [])) ∷ logged 0
    ++ asks 1 ∷ granted ((1, 0) ∷ []) ∷ reported 100 ∷ told ((0, outcome.Commit 100 0) ∷ [])
    ∷ asks 2 ∷ granted ((2, 100) ∷ []) ∷ refused (step.Get 2 (codes "a") false) refusal.FutureVersion
    ∷ gives (step.Pull 0 9) (answered.Version 100)
    ∷ reads 2 (codes "a") (Some (codes "1")) ∷ reads 1 (codes "a") None
    ∷ gives (step.Submit 2 0) (answered.ReadOnly 100) ∷ gives (step.Submit 1 0) (answered.ReadOnly 0) ∷ []

-- Two in one batch, of which the second one read what the first one wrote. Nothing is decided before the verdicts came,
-- of the resolver that is asked alone, and nobody is told before the version was reported.
abbrev pub one_batch : List Line
one_batch =
    asks 0 ∷ asks 1 ∷ granted ((0, 0) ∷ (1, 0) ∷ []) ∷ reads 0 (codes "a") None ∷ reads 1 (codes "a") None
    ∷ sets 0 (codes "a") (codes "x") ∷ sets 1 (codes "a") (codes "y") ∷ submits 0 ∷ submits 1 ∷ sealed 100 0 100 0 2
    ∷ gives (step.Resolve 0 0) (answered.Verdicts ((0, verdict.Yes) ∷ (1, verdict.Conflict) ∷ []))
    ∷ refused (step.Decide 0) (refusal.NotYet 0) ∷ done (step.Verdict 0 0)
    ∷ gives (step.Decide 0) (answered.Decided (outcome.Commit 100 0 ∷ outcome.Conflict ∷ [])) ∷ logged 0
    ++ refused (step.Answer 0) (refusal.NotYet 100) ∷ reported 100
    ∷ told ((0, outcome.Commit 100 0) ∷ (1, outcome.Conflict) ∷ []) ∷ []

-- Each of two reads what the other one writes: the second one isn't committed. A third one's conflict is with a write
-- that one resolver alone admitted.
abbrev pub write_skew : List Line
write_skew =
    asks 0 ∷ asks 1 ∷ granted ((0, 0) ∷ (1, 0) ∷ []) ∷ reads 0 (codes "a") None ∷ reads 1 (codes "z") None
    ∷ sets 0 (codes "z") (codes "t") ∷ sets 1 (codes "a") (codes "u") ∷ submits 0 ∷ sealed 100 0 100 0 1
    ∷ driven 0 ((0, verdict.Yes) ∷ []) ((0, verdict.Yes) ∷ []) (outcome.Commit 100 0 ∷ []) 100
    ((0, outcome.Commit 100 0) ∷ [])
    ++ asks 2 ∷ granted ((2, 100) ∷ []) ∷ gives (step.Pull 0 9) (answered.Version 100) ∷ reads 2 (codes "a") None
    ∷ sets 2 (codes "b") (codes "v") ∷ submits 1 ∷ sealed 100 1 200 100 1
    ∷ driven 1 ((0, verdict.Yes) ∷ []) ((0, verdict.Conflict) ∷ []) (outcome.Conflict ∷ []) 200
    ((1, outcome.Conflict) ∷ [])
    ++ submits 2 ∷ sealed 100 2 300 200 1
    ∷ driven 2 ((0, verdict.Conflict) ∷ []) [] (outcome.Conflict ∷ []) 300 ((2, outcome.Conflict) ∷ [])

-- Keys go over to another resolver and back. Both are asked about a read from before: the one that has the keys doesn't
-- know of the write meanwhile, and the other one does.
abbrev pub there_and_back : List Line
there_and_back =
    sealed 100 0 100 0 0 ∷ nobody_driven 0 100
    ++ asks 0 ∷ asks 1 ∷ granted ((0, 100) ∷ (1, 100) ∷ []) ∷ gives (step.Pull 0 9) (answered.Version 100)
    ∷ reads 0 (codes "p") None ∷ sets 1 (codes "p") (codes "u") ∷ sets 0 (codes "b") (codes "t")
    ∷ sealed 100 1 200 100 0 ∷ nobody_driven 1 200
    ++ done (step.Move (from_to (codes "m") (codes "t")) 0) ∷ submits 1 ∷ sealed 100 2 300 200 1
    ∷ driven 2 ((0, verdict.Yes) ∷ []) [] (outcome.Commit 300 0 ∷ []) 300 ((1, outcome.Commit 300 0) ∷ [])
    ++ done (step.Move (from_to (codes "m") (codes "t")) 1) ∷ sealed 100 3 400 300 0 ∷ nobody_driven 3 400
    ++ submits 0 ∷ sealed 100 4 500 400 1
    ∷ gives (step.Resolve 4 0) (answered.Verdicts ((0, verdict.Conflict) ∷ []))
    ∷ gives (step.Resolve 4 1) (answered.Verdicts ((0, verdict.Yes) ∷ [])) ∷ []

-- A shard doesn't forget what it hasn't reached, refuses reads below its floor, and answers those at its floor.
abbrev pub forgetting : List Line
forgetting =
    asks 0 ∷ granted ((0, 0) ∷ []) ∷ sets 0 (codes "a") (codes "1") ∷ submits 0 ∷ sealed 100 0 100 0 1
    ∷ driven 0 ((0, verdict.Yes) ∷ []) [] (outcome.Commit 100 0 ∷ []) 100 ((0, outcome.Commit 100 0) ∷ [])
    ++ asks 0 ∷ granted ((0, 100) ∷ []) ∷ sealed 199 1 299 100 0 ∷ nobody_driven 1 299
    ++ asks 1 ∷ granted ((1, 299) ∷ []) ∷ sets 0 (codes "a") (codes "3") ∷ submits 0 ∷ sealed 1 2 300 299 1
    ∷ driven 2 ((0, verdict.Yes) ∷ []) [] (outcome.Commit 300 0 ∷ []) 300 ((0, outcome.Commit 300 0) ∷ [])
    ++ asks 2 ∷ granted ((2, 300) ∷ []) ∷ gives (step.Pull 0 9) (answered.Version 300)
    ∷ refused (step.Forget 0 301) refusal.FutureVersion ∷ gives (step.Forget 0 300) (answered.Version 300)
    ∷ refused (step.Get 1 (codes "a") false) refusal.TransactionTooOld ∷ reads 2 (codes "a") (Some (codes "3")) ∷ []

-- One that read five million versions before its entry is committed, and one version later it is too old; one that read
-- nothing is committed however late.
abbrev pub window : List Line
window =
    sealed 100 0 100 0 0 ∷ nobody_driven 0 100
    ++ asks 0 ∷ asks 1 ∷ asks 2 ∷ granted ((0, 100) ∷ (1, 100) ∷ (2, 100) ∷ [])
    ∷ gives (step.Pull 0 9) (answered.Version 100) ∷ reads 0 (codes "a") None ∷ reads 1 (codes "a") None
    ∷ sets 0 (codes "b") (codes "1") ∷ sets 1 (codes "c") (codes "1") ∷ sets 2 (codes "d") (codes "1") ∷ submits 0
    ∷ sealed 5000000 1 5000100 100 1
    ∷ driven 1 ((0, verdict.Yes) ∷ []) [] (outcome.Commit 5000100 0 ∷ []) 5000100
    ((0, outcome.Commit 5000100 0) ∷ [])
    ++ submits 1 ∷ submits 2 ∷ sealed 1 2 5000101 5000100 2
    ∷ driven 2 ((0, verdict.Old) ∷ (1, verdict.Yes) ∷ []) [] (outcome.Old ∷ outcome.Commit 5000101 1 ∷ []) 5000101
    ((1, outcome.Old) ∷ (2, outcome.Commit 5000101 1) ∷ [])

-- A horizon never falls. One that read at it is committed, and one version later it is too old; so is the one that read
-- there as well and comes still later, though the window grew again. A window of nothing is refused.
abbrev pub window_that_grows_again : List Line
window_that_grows_again =
    sealed 100 0 100 0 0 ∷ nobody_driven 0 100
    ++ asks 0 ∷ asks 1 ∷ asks 2 ∷ granted ((0, 100) ∷ (1, 100) ∷ (2, 100) ∷ [])
    ∷ gives (step.Pull 0 9) (answered.Version 100)
    ∷ reads 0 (codes "a") None ∷ reads 1 (codes "a") None ∷ reads 2 (codes "a") None
    ∷ sets 0 (codes "b") (codes "1") ∷ sets 1 (codes "c") (codes "1") ∷ sets 2 (codes "d") (codes "1")
    ∷ refused (step.Window 0) refusal.BadConfig ∷ done (step.Window 150)
    ∷ submits 0 ∷ sealed 150 1 250 100 1
    ∷ driven 1 ((0, verdict.Yes) ∷ []) [] (outcome.Commit 250 0 ∷ []) 250 ((0, outcome.Commit 250 0) ∷ [])
    ++ submits 1 ∷ sealed 1 2 251 250 1
    ∷ driven 2 ((0, verdict.Old) ∷ []) [] (outcome.Old ∷ []) 251 ((1, outcome.Old) ∷ [])
    ++ done (step.Window 5000000) ∷ submits 2 ∷ sealed 1 3 252 251 1
    ∷ driven 3 ((0, verdict.Old) ∷ []) [] (outcome.Old ∷ []) 252 ((2, outcome.Old) ∷ [])

-- the version 100 and the number of a place, as a stamp
abbrev pub stamp_of : ℕ → List ℕ
stamp_of place = 0 ∷ 0 ∷ 0 ∷ 0 ∷ 0 ∷ 0 ∷ 0 ∷ 100 ∷ 0 ∷ place ∷ []

-- Two of one batch write stamped values. An offset at which no stamp fits is refused. The keys are unreadable to the
-- transactions themselves, until a clear names one; others read them with the stamps of the places.
abbrev pub versionstamps : List Line
versionstamps =
    asks 0 ∷ asks 1 ∷ granted ((0, 0) ∷ (1, 0) ∷ [])
    ∷ refused (step.Write 0 (Stamped (codes "a") (codes "x0123456789y") 3)) refusal.BadOperand
    ∷ done (step.Write 0 (Stamped (codes "a") (codes "x0123456789y") 1)) ∷ sets 0 (codes "A") (codes "1")
    ∷ refused (step.Get 0 (codes "a") false) refusal.AccessedUnreadable
    ∷ refused (step.Get 0 (codes "a") true) refusal.AccessedUnreadable
    ∷ done (step.Write 1 (Stamped (codes "c") (codes "0123456789") 0))
    ∷ done (step.Write 1 (Stamped (codes "d") (codes "0123456789") 0))
    ∷ done (step.Write 1 (Clear (codes "d"))) ∷ reads 1 (codes "d") None
    ∷ submits 0 ∷ submits 1 ∷ sealed 100 0 100 0 2
    ∷ driven 0 ((0, verdict.Yes) ∷ (1, verdict.Yes) ∷ []) []
    (outcome.Commit 100 0 ∷ outcome.Commit 100 1 ∷ []) 100
    ((0, outcome.Commit 100 0) ∷ (1, outcome.Commit 100 1) ∷ [])
    ++ asks 2 ∷ granted ((2, 100) ∷ []) ∷ gives (step.Pull 0 9) (answered.Version 100)
    ∷ reads 2 (codes "a") (Some (codes "x" ++ stamp_of 0 ++ codes "y"))
    ∷ reads 2 (codes "c") (Some (stamp_of 1)) ∷ reads 2 (codes "d") None ∷ []

-- a session asks at either proxy, is served there, sets a key and submits there
abbrev pub sets_at : ℕ → Point → List Line
sets_at number key =
    done (step.Ask number number) ∷ gives (step.Grant number) (answered.Granted ((number, 0) ∷ []))
    ∷ sets number key (codes "x") ∷ done (step.Submit number number) ∷ []

-- both batches are in flight at once
abbrev pub both_in_flight : List Line
both_in_flight =
    sets_at 0 (codes "a") ++ sets_at 1 (codes "b") ++ sealed 100 0 100 0 1
    ∷ gives (step.Seal 1 100) (answered.Issued 1 200 100 1) ∷ []

abbrev pub says_yes : ℕ → Line
says_yes entry = gives (step.Resolve entry 0) (answered.Verdicts ((0, verdict.Yes) ∷ []))

-- Resolvers and logs take entries in the book's order, each once, and a log only what is decided; but a batch may be
-- decided before the one before it.
abbrev pub order_and_repeats : List Line
order_and_repeats =
    both_in_flight ++ refused (step.Seal 0 1) refusal.WrongState ∷ refused (step.Resolve 1 0) (refusal.NotYet 100)
    ∷ says_yes 0 ∷ says_yes 1 ∷ refused (step.Resolve 0 0) refusal.Stale
    ∷ refused (step.Push 1 0) refusal.Unknown ∷ done (step.Verdict 1 0)
    ∷ gives (step.Decide 1) (answered.Decided (outcome.Commit 200 0 ∷ []))
    ∷ refused (step.Push 1 0) (refusal.NotYet 100) ∷ []

-- The committed version is the greatest one that was reported, whoever reports last.
abbrev pub reported_in_the_other_order : List Line
reported_in_the_other_order =
    both_in_flight ++ says_yes 0 ∷ says_yes 1 ∷ done (step.Verdict 1 0) ∷ done (step.Verdict 0 0)
    ∷ gives (step.Decide 1) (answered.Decided (outcome.Commit 200 0 ∷ []))
    ∷ gives (step.Decide 0) (answered.Decided (outcome.Commit 100 0 ∷ [])) ∷ logged 0
    ++ logged 1 ++ gives (step.Report 1) (answered.Version 200) ∷ reported 200
    ∷ told ((0, outcome.Commit 100 0) ∷ []) ∷ asks 2 ∷ granted ((2, 200) ∷ []) ∷ []

abbrev pub WorkedScriptsAreTraces : Type 0
WorkedScriptsAreTraces =
    IsScript (parted_at_m 1) freshness
    × IsScript (parted_at_m 1) one_batch
    × IsScript (parted_at_m 1) write_skew
    × IsScript (parted_at_m 1) there_and_back
    × IsScript (parted_at_m 1) forgetting
    × IsScript (parted_at_m 1) window
    × IsScript (parted_at_m 2) order_and_repeats
    × IsScript (parted_at_m 2) reported_in_the_other_order
    × IsScript (parted_at_m 1) window_that_grows_again
    × IsScript (parted_at_m 1) versionstamps
