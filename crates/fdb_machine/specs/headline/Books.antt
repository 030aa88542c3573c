-- What a trace tells of its entries is a book.
use Rattle.std.specs.Prelude.{◌≤◌, ◌==◌, ℕ, suc, List, length, Result}
use Rattle.std.specs.List.{AllByRecursion, count_by}
use Rattle.fdb_keys.specs.declared.refusal.Refusal.{Refusal}
use Rattle.fdb_txn.specs.book.History.{IsBook, IsSealed}
use Rattle.fdb_proxy.specs.declared.config.Config.{Config}
use Rattle.fdb_machine.specs.headline.Readings.{Readings, readings_of}
use Rattle.fdb_machine.specs.headline.Traces.{IsTraceOf}
use Rattle.fdb_machine.specs.machine.Failures.{State}
use Rattle.fdb_machine.specs.declared.step.Answered.{Answered}
use Rattle.fdb_machine.specs.machine.AnyStep.{Step}

-- The entries are a book for as many resolvers as there are, so that no transaction is in it twice, and each
-- transaction's write set has all that its mutations name.
abbrev pub HasBook : Config → Readings → Type 0
HasBook config r = IsBook (suc (length config.resolver_splits)) r.book × AllByRecursion IsSealed r.book

-- No entry's clients are told twice.
abbrev pub AnswersOnce : Readings → Type 0
AnswersOnce r = (entry : ℕ) → count_by (λ (other : ℕ). other == entry) r.answered ≤ 1

-- over every trace the entries are a book
abbrev pub TracesTellBooks : Type 0
TracesTellBooks =
    (config : Config) (steps : List Step) (answers : List (Result Answered Refusal)) (world : State)
    → IsTraceOf config steps answers world → HasBook config (readings_of steps answers)

-- and are answered once at most
abbrev pub EntriesAreAnsweredOnce : Type 0
EntriesAreAnsweredOnce =
    (config : Config) (steps : List Step) (answers : List (Result Answered Refusal)) (world : State)
    → IsTraceOf config steps answers world → AnswersOnce (readings_of steps answers)
