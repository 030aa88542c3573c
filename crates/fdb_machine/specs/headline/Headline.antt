-- What an acknowledgement means: where the transaction stands, and what its reads were answered.
use Rattle.std.specs.Prelude.{◌≤◌, List, Result}
use Rattle.std.specs.List.{AllByRecursion}
use Rattle.fdb_keys.specs.declared.refusal.Refusal.{Refusal}
use Rattle.fdb_keys.specs.Points.{Point}
use Rattle.fdb_txn.specs.book.Book.{last_version}
use Rattle.fdb_proxy.specs.declared.config.Config.{Config}
use Rattle.fdb_roles.specs.Spots.{spot_version, IsSerialized}
use Rattle.fdb_roles.specs.declared.placed.Placed.{Placed}
use Rattle.fdb_machine.specs.machine.Failures.{State}
use Rattle.fdb_machine.specs.headline.Readings.{Readings, readings_of}
use Rattle.fdb_machine.specs.headline.Books.{HasBook}
use Rattle.fdb_machine.specs.headline.RealTime.{KeepsRealTime}
use Rattle.fdb_machine.specs.headline.Serving.{System, AllServe}
use Rattle.fdb_machine.specs.headline.Traces.{IsTraceOf}
use Rattle.fdb_machine.specs.declared.step.Answered.{Answered}
use Rattle.fdb_machine.specs.machine.AnyStep.{Step}

-- each acknowledged transaction is serialized at its spot, whose version the entries have come to
abbrev pub AllSerialized : List Point → Readings → Type 0
AllSerialized splits r =
    AllByRecursion (λ (placed : Placed). IsSerialized splits r.book placed
    × (spot_version placed.spot ≤ last_version r.book)) r.acknowledged

-- Over every trace, each acknowledged transaction is serialized at its spot: it is committed there, and each of its
-- ordinary reads was answered as when the committed transactions run one at a time from the empty map, by commit
-- version and place in the batch.
abbrev pub AcknowledgedAreSerialized : Type 0
AcknowledgedAreSerialized =
    (config : Config) (steps : List Step) (answers : List (Result Answered Refusal)) (world : State)
    → IsTraceOf config steps answers world
    → AllSerialized config.resolver_splits (readings_of steps answers)

-- What holds of a trace, by what is read off it alone, and of the world whose trace it is: the trace's entries are a
-- book, with no transaction twice; each that the trace acknowledged is serialized at its spot, and after those that
-- were acknowledged before it began; and every shard of the world answers, at each version that it serves, from the run
-- of the committed transactions one at a time.
pub record IsStrictlySerializable (config : Config) (steps : List Step) (answers : List (Result Answered Refusal))
    (system : System) : Type 0 where
  pub is_trace_of : IsTraceOf config steps answers system.state
  pub book : HasBook config (readings_of steps answers)
  pub serial : AllSerialized config.resolver_splits (readings_of steps answers)
  pub real_time : KeepsRealTime steps answers
  pub served : AllServe config (readings_of steps answers).book system.shards
