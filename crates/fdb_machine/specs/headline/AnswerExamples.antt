-- What no answer is: of steps of the worked scripts, each with an answer that is wrong in one thing.
use Rattle.std.specs.Prelude.{ℕ, List, [], ◌∷◌, take}
use Rattle.fdb_resolver.specs.declared.verdict.Verdict.TheVariants as verdict
use Rattle.fdb_proxy.specs.declared.outcome.Outcome.TheVariants as outcome
use Rattle.fdb_machine.specs.headline.Answers.{IsAnswered}
use Rattle.fdb_machine.specs.headline.Due.{IsDue}
use Rattle.fdb_machine.specs.headline.Readings.{Readings, readings_of}
use Rattle.fdb_machine.specs.headline.ScriptExamples.{Line, parted_at_m, steps_of, answers_of, freshness, one_batch}
use Rattle.fdb_machine.specs.declared.step.Answered.{Answered}
use Rattle.fdb_machine.specs.declared.step.Answered.TheVariants as answered
use Rattle.fdb_machine.specs.machine.AnyStep.{Step}
use Rattle.fdb_machine.specs.declared.step.AnyStep.TheVariants as step

-- what the first lines of a script tell
abbrev pub told_by : ℕ → List Line → Readings
told_by count lines = readings_of (take count (steps_of lines)) (take count (answers_of lines))

-- after so many lines of the script the step isn't answered so
abbrev pub IsNoAnswer : List Line → ℕ → Step → Answered → Type 0
IsNoAnswer lines count one_step answer = IsAnswered (parted_at_m 1) (told_by count lines) one_step answer → ⊥

-- after so many lines of the script the step is due
abbrev pub IsDueAfter : List Line → ℕ → Step → Type 0
IsDueAfter lines count one_step = IsDue (parted_at_m 1) (told_by count lines) one_step

-- Neither a version that is older than the greatest reported one, nor another version, number or count than the next
-- entry has, nor one that a shard doesn't come to, nor a floor that sinks or that the shard hasn't reached. No window
-- is taken that has no versions or too many.
abbrev pub OtherVersionsAreNoAnswers : Type 0
OtherVersionsAreNoAnswers =
    IsNoAnswer freshness 16 (step.Grant 0) (answered.Granted ((2, 0) ∷ []))
    × IsNoAnswer freshness 4 (step.Seal 0 100) (answered.Issued 0 101 0 1)
    × IsNoAnswer freshness 4 (step.Seal 0 100) (answered.Issued 1 100 0 1)
    × IsNoAnswer freshness 4 (step.Seal 0 100) (answered.Issued 0 100 0 0)
    × IsNoAnswer freshness 4 (step.Seal 0 100) (answered.Issued 0 100 100 1)
    × IsNoAnswer freshness 13 (step.Report 0) (answered.Version 0)
    × IsNoAnswer freshness 18 (step.Pull 0 9) (answered.Version 0)
    × IsNoAnswer freshness 18 (step.Pull 0 0) (answered.Version 100)
    × IsNoAnswer freshness 19 (step.Pop 0) (answered.Version 0)
    × IsNoAnswer freshness 19 (step.Forget 0 0) (answered.Version 100)
    × IsNoAnswer freshness 19 (step.Forget 0 101) (answered.Version 101)
    × IsNoAnswer freshness 21 (step.Submit 2 0) (answered.ReadOnly 0)
    × IsNoAnswer freshness 0 (step.Window 0) answered.Done
    × IsNoAnswer freshness 0 (step.Window 5000001) answered.Done
    × IsNoAnswer freshness 0 (step.Window 5) (answered.Version 5)

-- What a resolver says of the two places: not that the second one doesn't conflict, nor of one place alone, nor of them
-- in another order; and nothing of an entry whose turn it isn't.
abbrev pub OtherVerdictsAreNoAnswers : Type 0
OtherVerdictsAreNoAnswers =
    IsNoAnswer one_batch 10 (step.Resolve 0 0) (answered.Verdicts ((0, verdict.Yes) ∷ (1, verdict.Yes) ∷ []))
    × IsNoAnswer one_batch 10 (step.Resolve 0 0) (answered.Verdicts ((0, verdict.Old) ∷ (1, verdict.Conflict) ∷ []))
    × IsNoAnswer one_batch 10 (step.Resolve 0 0) (answered.Verdicts ((0, verdict.Yes) ∷ []))
    × IsNoAnswer one_batch 10 (step.Resolve 0 0) (answered.Verdicts ((1, verdict.Conflict) ∷ (0, verdict.Yes) ∷ []))
    × IsNoAnswer one_batch 10 (step.Resolve 0 1) (answered.Verdicts ((0, verdict.Yes) ∷ []))
    × IsNoAnswer one_batch 11 (step.Resolve 0 0)
    (answered.Verdicts ((0, verdict.Yes) ∷ (1, verdict.Conflict) ∷ []))

-- nothing is decided before the verdicts came, and then it is by the rule, of each place
abbrev pub EarlyDecisionsAreNoAnswers : Type 0
EarlyDecisionsAreNoAnswers =
    IsNoAnswer one_batch 12 (step.Decide 0) (answered.Decided (outcome.Commit 100 0 ∷ outcome.Conflict ∷ []))
    × IsNoAnswer one_batch 13 (step.Decide 0) (answered.Decided (outcome.Commit 100 0 ∷ outcome.Commit 100 1 ∷ []))
    × IsNoAnswer one_batch 13 (step.Decide 0) (answered.Decided (outcome.Conflict ∷ outcome.Conflict ∷ []))
    × IsNoAnswer one_batch 13 (step.Decide 0) (answered.Decided (outcome.Commit 100 0 ∷ outcome.Old ∷ []))
    × IsNoAnswer one_batch 13 (step.Decide 0) (answered.Decided (outcome.Commit 100 0 ∷ []))
    × IsNoAnswer one_batch 14 (step.Decide 0) (answered.Decided (outcome.Commit 100 0 ∷ outcome.Conflict ∷ []))

-- No message is there before the step that makes it, none comes twice, and a log takes what is decided alone.
abbrev pub EarlyMessagesAreNoAnswers : Type 0
EarlyMessagesAreNoAnswers =
    IsNoAnswer one_batch 10 (step.Verdict 0 0) answered.Done
    × IsNoAnswer one_batch 13 (step.Verdict 0 0) answered.Done
    × IsNoAnswer one_batch 13 (step.Push 0 0) answered.Done
    × IsNoAnswer one_batch 14 (step.Logged 0 0) answered.Done
    × IsNoAnswer one_batch 15 (step.Push 0 0) answered.Done
    × IsNoAnswer one_batch 16 (step.Logged 0 0) answered.Done

-- The clients are told what became of their transactions by the rule: not that the one in conflict commits, nor that
-- the committed one doesn't, nor one of them alone, nor in another order.
abbrev pub OtherOutcomesAreNoAnswers : Type 0
OtherOutcomesAreNoAnswers =
    IsNoAnswer one_batch 18 (step.Answer 0)
    (answered.Answers ((0, outcome.Commit 100 0) ∷ (1, outcome.Commit 100 1) ∷ []))
    × IsNoAnswer one_batch 18 (step.Answer 0) (answered.Answers ((0, outcome.Conflict) ∷ (1, outcome.Conflict) ∷ []))
    × IsNoAnswer one_batch 18 (step.Answer 0) (answered.Answers ((0, outcome.Commit 100 0) ∷ (1, outcome.Old) ∷ []))
    × IsNoAnswer one_batch 18 (step.Answer 0) (answered.Answers ((0, outcome.Commit 100 0) ∷ []))
    × IsNoAnswer one_batch 18 (step.Answer 0)
    (answered.Answers ((1, outcome.Conflict) ∷ (0, outcome.Commit 100 0) ∷ []))

-- each message of the script is due where it is taken or delivered, and the decision where the verdicts came
abbrev pub MessagesAreDue : Type 0
MessagesAreDue =
    IsDueAfter one_batch 10 (step.Resolve 0 0) × IsDueAfter one_batch 10 (step.Resolve 0 1)
    × IsDueAfter one_batch 12 (step.Verdict 0 0) × IsDueAfter one_batch 13 (step.Decide 0)
    × IsDueAfter one_batch 14 (step.Push 0 0) × IsDueAfter one_batch 15 (step.Logged 0 0)
