-- Real time: who begins after another transaction was acknowledged is never ordered before it.
use Rattle.std.specs.Prelude.{◌≡◌, ◌<◌, ◌≤◌, ℕ, List, take, Some, Result, slice_get}
use Rattle.fdb_keys.specs.declared.refusal.Refusal.{Refusal}
use Rattle.fdb_txn.specs.declared.txn_id.TxnId.{TxnId}
use Rattle.fdb_proxy.specs.declared.config.Config.{Config}
use Rattle.fdb_roles.specs.Spots.{spot_version, IsAfterVersion}
use Rattle.fdb_roles.specs.declared.placed.Placed.{Placed}
use Rattle.fdb_machine.specs.machine.Failures.{State}
use Rattle.fdb_machine.specs.headline.Readings.{Readings, readings_of, times_begun}
use Rattle.fdb_machine.specs.headline.Traces.{IsTraceOf}
use Rattle.fdb_machine.specs.declared.step.Answered.{Answered}
use Rattle.fdb_machine.specs.machine.AnyStep.{Step}

-- the transaction of this id has begun: its session began more than those before it
abbrev pub HasBegun : Readings → TxnId → Type 0
HasBegun r id = id.number < times_begun id.session r.begun

-- A transaction that is acknowledged later, and hadn't begun where another was acknowledged, reads at that one's
-- version or a greater one, and is ordered after it.
abbrev pub AreAfterEarlier : Readings → Readings → Type 0
AreAfterEarlier r later =
    (i j : ℕ) (placed other : Placed) → slice_get r.acknowledged i ≡ Some placed
    → slice_get later.acknowledged j ≡ Some other
    → (HasBegun r other.transcript.id → ⊥)
    → (spot_version placed.spot ≤ other.transcript.read_version) × IsAfterVersion (spot_version placed.spot) other.spot

-- Real time over a trace: it holds of what was acknowledged in any number of its first steps.
abbrev pub KeepsRealTime : List Step → List (Result Answered Refusal) → Type 0
KeepsRealTime steps answers =
    (n : ℕ) → AreAfterEarlier (readings_of (take n steps) (take n answers)) (readings_of steps answers)

-- every trace keeps real time
abbrev pub RealTime : Type 0
RealTime =
    (config : Config) (steps : List Step) (answers : List (Result Answered Refusal)) (world : State)
    → IsTraceOf config steps answers world → KeepsRealTime steps answers
