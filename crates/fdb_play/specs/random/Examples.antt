-- What is counted of steps, computed.
use Rattle.std.specs.Prelude.{◌≡◌, ◌≢◌, ◌++◌, ℕ, false, List, [], ◌∷◌, replicate, Some, None, Ok, Err}
use Rattle.fdb_keys.specs.declared.refusal.Refusal.TheVariants.{Stale, Unknown}
use Rattle.fdb_proxy.specs.declared.outcome.Outcome.{Outcome}
use Rattle.fdb_proxy.specs.declared.outcome.Outcome.TheVariants.{Commit, Conflict, Old}
use Rattle.fdb_machine.specs.declared.step.Answered.TheVariants.{Answers, Done, ReadOnly, Version}
use Rattle.fdb_machine.specs.machine.Failures.{State}
use Rattle.fdb_play.specs.random.Reports.{report_of}
use Rattle.fdb_play.specs.random.Runs.{CountsSteps}
use Rattle.fdb_play.specs.random.Tallies.{AreCounted, no_tally, noting, place_of, raised, raised_at}
use Rattle.fdb_play.specs.declared.random.tally.Tally.{Tally}

-- so many counts of 0, and a 1 at the place
abbrev pub one_at : ℕ → ℕ → List ℕ
one_at place behind = replicate place 0 ++ 1 ∷ replicate behind 0

-- Counts go up to the greatest number, and where there is no such place none does.
abbrev pub WorkedCounts : Type 0
WorkedCounts =
    (raised 0 ≡ 1) × (raised 4294967294 ≡ 4294967295) × (raised 4294967295 ≡ 4294967295)
    × (raised_at (3 ∷ 4 ∷ []) 1 ≡ 3 ∷ 5 ∷ [])
    × (raised_at (3 ∷ 4 ∷ []) 2 ≡ 3 ∷ 4 ∷ [])
    × (place_of 1007 ≡ 0) × (place_of 9003 ≡ 12) × (place_of 9016 ≡ 25) × (place_of 1008 ≡ 26)

-- the first write, refused
abbrev pub refused_write : Tally
refused_write = noting no_tally 6 (Err Stale)

-- the answers of a batch
abbrev pub batch_answers : List (ℕ × Outcome)
batch_answers = (0, Commit 7000 0) ∷ (3, Conflict) ∷ (1, Old) ∷ (2, Commit 7000 3) ∷ []

-- a report's answers, counted
abbrev pub answered_batch : Tally
answered_batch = noting no_tally 17 (Ok (Answers batch_answers))

-- What is counted of an answer of each kind: a refusal is counted with its code and with the step's kind; an accepted
-- step by its kind, with each transaction that it ends by its outcome.
abbrev pub WorkedNotes : Type 0
WorkedNotes =
    (refused_write ≡ record no_tally { refused = 1; refusals = one_at 12 13; refused_kinds = one_at 6 16 })
    × (noting no_tally 6 (Ok Done) ≡ record no_tally { accepted = one_at 6 16 })
    × (noting no_tally 16 (Ok (Version 7000)) ≡ record no_tally { accepted = one_at 16 6 })
    × (noting no_tally 9 (Ok (ReadOnly 7000)) ≡ record no_tally { accepted = one_at 9 13; read_only = 1 })
    × (answered_batch ≡ record no_tally { accepted = one_at 17 5; committed = 2; conflicting = 1; too_old = 1 })
    × (refused_write ≢ no_tally)
    × (refused_write ≢ record no_tally { refused = 1 })
    × (refused_write ≢ noting no_tally 7 (Err Stale))
    × (refused_write ≢ noting no_tally 6 (Err Unknown))
    × (refused_write ≢ noting no_tally 6 (Ok Done))
    × (noting no_tally 9 (Ok (ReadOnly 7000)) ≢ record no_tally { accepted = one_at 9 13; committed = 1 })

-- Which steps are counted: each of them once, a refused one with its code and its kind.
abbrev pub WorkedSteps : Type 0
WorkedSteps =
    AreCounted 0 no_tally
    × AreCounted 1 refused_write
    × AreCounted 2 (noting refused_write 17 (Ok (Answers batch_answers)))
    × (AreCounted 1 no_tally → ⊥)
    × (AreCounted 0 refused_write → ⊥)
    × (AreCounted 1 (record no_tally { refused = 1 }) → ⊥)
    × (AreCounted 1 (record refused_write { refused_kinds = no_tally.refused_kinds }) → ⊥)
    × ((old : State) (new : State) → CountsSteps 1 old new no_tally → ⊥)

-- Transactions in conflict and those that are too old are aborted, and read-only ones are acknowledged too.
abbrev pub WorkedReports : Type 0
WorkedReports =
    ((report_of answered_batch 1 (Some 2)).aborted ≡ 2)
    × ((report_of answered_batch 1 (Some 2)).acknowledged ≡ 2)
    × ((report_of (noting answered_batch 9 (Ok (ReadOnly 7000))) 2 (Some 3)).acknowledged ≡ 3)
    × ((report_of (noting answered_batch 6 (Err Stale)) 2 (Some 2)).refused ≡ 1)
    × ((report_of answered_batch 1 (Some 2)).refused ≢ 1)
    × ((report_of answered_batch 1 None).ok ≡ false)
