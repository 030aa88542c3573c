-- What holds of the machine at every step and over every run.
use Rattle.std.specs.Prelude.{◌≡◌, ◌↔◌, ◌<◌, ⊤, ℕ, suc, Bool, true, false, nat_lt, List, length, map, Some, Result, Ok}
use Rattle.std.specs.Prelude.{Err, slice_get}
use Rattle.std.specs.FinMap.{get}
use Rattle.std.specs.List.{AllByRecursion}
use Rattle.fdb_keys.specs.declared.refusal.Refusal.{Refusal}
use Rattle.fdb_keys.specs.declared.refusal.Refusal.TheVariants.{AccessedUnreadable, FutureVersion, TransactionTooOld}
use Rattle.fdb_keys.specs.Points.{Point}
use Rattle.fdb_keys.specs.Ranges.{Range, in_range, is_empty_range}
use Rattle.fdb_mutations.specs.PairLaws.{given_of, scanned_of}
use Rattle.fdb_txn.specs.declared.spot.Spot.{Spot}
use Rattle.fdb_txn.specs.declared.spot.Spot.TheVariants as spot
use Rattle.fdb_txn.specs.book.Book.{seen_of}
use Rattle.fdb_txn.specs.rules.Owners.{first_owner}
use Rattle.fdb_txn.specs.rules.SerialMap.{serial_map_at}
use Rattle.fdb_proxy.specs.declared.config.Config.{Config}
use Rattle.fdb_client.specs.declared.program.Transcript.{Transcript}
use Rattle.fdb_client.specs.Programs.{program, copy, decided}
use Rattle.fdb_client.specs.Unreadable.{unreadable}
use Rattle.fdb_roles.specs.declared.placed.Placed.{Placed}
use Rattle.fdb_machine.specs.machine.Roles.{ShardProgress}
use Rattle.fdb_machine.specs.headline.Readings.{readings_of}
use Rattle.fdb_machine.specs.headline.Traces.{IsTraceOf}
use Rattle.fdb_machine.specs.machine.Failures.{State}
use Rattle.fdb_machine.specs.machine.RoleSteps.{version_of_shard}
use Rattle.fdb_machine.specs.machine.Machine.{Machine, Transition}
use Rattle.fdb_machine.specs.machine.Sessions.{open_at}
use Rattle.fdb_machine.specs.machine.Steps.{next, after}
use Rattle.fdb_machine.specs.machine.Worlds.{taken_of}
use Rattle.fdb_machine.specs.declared.step.Answered.TheVariants as answered
use Rattle.fdb_machine.specs.machine.AnyStep.{Step}
use Rattle.fdb_machine.specs.declared.step.AnyStep.TheVariants as step
use Rattle.fdb_machine.specs.declared.step.Answered.{Answered}

-- a refused step changes nothing
abbrev pub RefusalsChangeNothing : Type 0
RefusalsChangeNothing = (m : Machine) (step : Step) (refusal : Refusal) → next m step ≡ Err refusal
    → after m (next m step) ≡ m

-- a read-version proxy tells each session that asks there the committed version
abbrev pub GrantsCommitted : Type 0
GrantsCommitted =
    (m : Machine) (proxy : ℕ) (transition : Transition) → next m (step.Grant proxy) ≡ Ok transition
    → (there : List ℕ) × (slice_get m.grv_proxies proxy ≡ Some there)
    × (transition.answer ≡ answered.Granted (map (λ (session : ℕ). (session, m.committed)) there))

-- over every trace the committed version is the greatest one that was reported
abbrev pub CommittedIsGreatestReported : Type 0
CommittedIsGreatestReported =
    (config : Config) (steps : List Step) (answers : List (Result Answered Refusal)) (world : State)
    → IsTraceOf config steps answers world → world.machine.committed ≡ (readings_of steps answers).reported

-- a read answers as the transaction's own operations, executed on the map at its read version, leave the key
abbrev pub GetsFromTheRun : Type 0
GetsFromTheRun =
    (m : Machine) (session : ℕ) (key : List ℕ) (snapshot : Bool) (transition : Transition)
    → next m (step.Get session key snapshot) ≡ Ok transition
    → (transcript : Transcript) × (open_at m.sessions session ≡ Some transcript)
    × (transition.answer ≡ answered.Value
    (get (copy (serial_map_at m.config.resolver_splits transcript.read_version (seen_of m.book).places)
    (program transcript.ops)) key))

-- a read of a range answers its pairs, as the transaction's own operations, executed on that map, leave them
abbrev pub RangeReadsFromTheRun : Type 0
RangeReadsFromTheRun =
    (m : Machine) (session : ℕ) (range : Range) (limit : ℕ) (is_reverse snapshot : Bool) (transition : Transition)
    → next m (step.GetRange session range limit is_reverse snapshot) ≡ Ok transition
    → (transcript : Transcript) × (open_at m.sessions session ≡ Some transcript)
    × (transition.answer ≡ answered.Pairs
    (given_of (copy (serial_map_at m.config.resolver_splits transcript.read_version (seen_of m.book).places)
    (program transcript.ops)) range limit is_reverse))

-- the shard that holds the point still serves the version but hasn't reached it
abbrev pub Lags : Machine → ℕ → Point → Type 0
Lags m version point =
    (progress : ShardProgress) × (slice_get m.shards (first_owner m.config.shard_splits point) ≡ Some progress)
    × (nat_lt version progress.floor ≡ false)
    × (nat_lt (version_of_shard m.book progress) version ≡ true)

-- it no longer serves the version
abbrev pub Forgot : Machine → ℕ → Point → Type 0
Forgot m version point =
    (progress : ShardProgress) × (slice_get m.shards (first_owner m.config.shard_splits point) ≡ Some progress)
    × (nat_lt version progress.floor ≡ true)

-- the transaction's own operations don't decide the key, and the shard that holds it still serves the read
-- version but hasn't reached it
abbrev pub IsLagging : Machine → Transcript → List ℕ → Type 0
IsLagging m transcript key =
    (decided (program transcript.ops) key ≡ false) × Lags m transcript.read_version key

-- the transaction's own operations don't decide the key, and the shard that holds it no longer serves the read version
abbrev pub HasForgotten : Machine → Transcript → List ℕ → Type 0
HasForgotten m transcript key =
    (decided (program transcript.ops) key ≡ false) × Forgot m transcript.read_version key

-- A read of an open transaction is refused as in the future where the key's shard lags, as too old where it has
-- forgotten the read version, as unreadable where the transaction's own operations leave the key so, and as each of
-- these only there; any other key that they decide is answered.
abbrev pub GetsRefused : Type 0
GetsRefused =
    (m : Machine) (session : ℕ) (key : List ℕ) (snapshot : Bool) (transcript : Transcript)
    → open_at m.sessions session ≡ Some transcript
    → ((next m (step.Get session key snapshot) ≡ Err FutureVersion) ↔ IsLagging m transcript key)
    × ((next m (step.Get session key snapshot) ≡ Err TransactionTooOld) ↔ HasForgotten m transcript key)
    × ((next m (step.Get session key snapshot) ≡ Err AccessedUnreadable)
    ↔ (unreadable (program transcript.ops) key ≡ true))
    × (decided (program transcript.ops) key ≡ true → unreadable (program transcript.ops) key ≡ false
    → (transition : Transition) × (next m (step.Get session key snapshot) ≡ Ok transition))

-- Such a refusal asks no shard: the transaction's own operations decide the key, whichever roles have failed.
abbrev pub UnreadableKeysAskNoShard : Type 0
UnreadableKeysAskNoShard =
    (state : State) (session : ℕ) (key : List ℕ) (snapshot : Bool) (transcript : Transcript)
    → open_at state.machine.sessions session ≡ Some transcript
    → unreadable (program transcript.ops) key ≡ true
    → (decided (program transcript.ops) key ≡ true)
    × (taken_of state (step.Get session key snapshot) ≡ Err AccessedUnreadable)

-- the shard that holds the point serves the version
abbrev pub Serves : Machine → ℕ → Point → Type 0
Serves m version point =
    (progress : ShardProgress) × (slice_get m.shards (first_owner m.config.shard_splits point) ≡ Some progress)
    × (nat_lt version progress.floor ≡ false)
    × (nat_lt (version_of_shard m.book progress) version ≡ false)

-- some point of the range has the property
abbrev pub AtSomePoint : Range → (Point → Type 0) → Type 0
AtSomePoint range P = (x : Point) × (in_range range x ≡ true) × P x

-- each point of the range has it
abbrev pub AtEachPoint : Range → (Point → Type 0) → Type 0
AtEachPoint range P = (x : Point) → in_range range x ≡ true → P x

-- what a read of a range scans on the serial map after the transaction's own operations
abbrev pub scanned_by : Machine → Transcript → Range → ℕ → Bool → Range
scanned_by m transcript range limit is_reverse = scanned_of
    (copy (serial_map_at m.config.resolver_splits transcript.read_version (seen_of m.book).places)
    (program transcript.ops)) range limit is_reverse

-- A read of a range in an open transaction is refused as too old exactly where some point of the range is held by a
-- shard that has forgotten the read version. Where there is a shard for each piece between the splits, as in every
-- world, it is refused as in the future exactly where no point is held by one that has forgotten it, and some point by
-- one that lags. It is refused as unreadable exactly where each point of the range is held by a shard that serves the
-- version, and some point of what it scans is unreadable; and it is answered exactly where each is served so, and none
-- is unreadable, so where the range has no point too. The limit ends what is scanned, and changes nothing else.
abbrev pub RangeReadsRefused : Type 0
RangeReadsRefused =
    (m : Machine) (session : ℕ) (range : Range) (limit : ℕ) (is_reverse snapshot : Bool) (transcript : Transcript)
    → open_at m.sessions session ≡ Some transcript
    → let one_step = step.GetRange session range limit is_reverse snapshot in
    let version = transcript.read_version in
    let scanned = scanned_by m transcript range limit is_reverse in
    ((next m one_step ≡ Err TransactionTooOld) ↔ AtSomePoint range (Forgot m version))
    × (length m.shards ≡ suc (length m.config.shard_splits)
    → (next m one_step ≡ Err FutureVersion)
    ↔ ((¬ AtSomePoint range (Forgot m version)) × AtSomePoint range (Lags m version)))
    × ((next m one_step ≡ Err AccessedUnreadable)
    ↔ (AtEachPoint range (Serves m version)
    × AtSomePoint scanned (λ x. unreadable (program transcript.ops) x ≡ true)))
    × (((transition : Transition) × (next m one_step ≡ Ok transition))
    ↔ (AtEachPoint range (Serves m version)
    × AtEachPoint scanned (λ x. unreadable (program transcript.ops) x ≡ false)))
    × (is_empty_range range ≡ true → (transition : Transition) × (next m one_step ≡ Ok transition))

-- every log, by how many entries each took, has taken the entry of the spot
abbrev pub IsTakenByAll : List ℕ → Spot → Type 0
IsTakenByAll logs (spot.Entry index place version) = AllByRecursion (λ (taken : ℕ). index < taken) logs
IsTakenByAll logs (spot.ReadOnly version) = ⊤

-- over every trace every log has taken each entry with an acknowledged place
abbrev pub AcknowledgedAreLogged : Type 0
AcknowledgedAreLogged =
    (config : Config) (steps : List Step) (answers : List (Result Answered Refusal)) (world : State)
    → IsTraceOf config steps answers world
    → AllByRecursion (λ (placed : Placed). IsTakenByAll world.machine.logs placed.spot) world.machine.acknowledged
