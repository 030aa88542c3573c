-- What the steps of roles that tell clients nothing change, by the kind of the step.
use Rattle.std.specs.Prelude.{◌≡◌, ◌<◌, ◌≤◌, ℕ, suc, ◌+◌, min, max, Bool, true, false, List, [], take, length}
use Rattle.std.specs.Prelude.{replicate, Some, None, slice_get, slice_set}
use Rattle.fdb_txn.specs.declared.entry.Entry.{Entry}
use Rattle.fdb_txn.specs.book.Book.{last_version, seen_before}
use Rattle.fdb_log.specs.Messages.{log_of}
use Rattle.fdb_proxy.specs.Verdicts.{is_needed, verdicts_on, outcomes_on}
use Rattle.fdb_machine.specs.machine.CommitProxySteps.{awaits}
use Rattle.fdb_machine.specs.machine.Machine.{Machine, is_set, first_missing}
use Rattle.fdb_machine.specs.machine.RoleSteps.{version_of_shard}
use Rattle.fdb_machine.specs.machine.Roles.{CommitProxy, Stage, Resolving, Logging, ShardProgress, FromResolver}
use Rattle.fdb_machine.specs.machine.Roles.{FromLog}
use Rattle.fdb_machine.specs.declared.step.Answered.{Answered}
use Rattle.fdb_machine.specs.declared.step.Answered.TheVariants as answered
use Rattle.fdb_machine.specs.machine.AnyStep.{Step}
use Rattle.fdb_machine.specs.declared.step.AnyStep.TheVariants as step

-- a resolver took the next entry
pub record ResolverTook (m : Machine) (i resolver : ℕ) (answer : Answered) (resolvers logs : List ℕ)
    (shards : List ShardProgress) : Type 0 where
  pub entry : Entry
  pub entry_is : slice_get m.book i ≡ Some entry
  pub its_turn : slice_get m.resolvers resolver ≡ Some i
  pub answer_is : answer
      ≡ answered.Verdicts (verdicts_on m.config.resolver_splits resolver (seen_before m.book i) entry)
  pub resolvers_are : resolvers ≡ slice_set m.resolvers resolver (suc i)
  pub logs_are : logs ≡ m.logs
  pub shards_are : shards ≡ m.shards

-- a log took the next entry, which is decided
pub record LogTook (m : Machine) (i log : ℕ) (answer : Answered) (resolvers logs : List ℕ)
    (shards : List ShardProgress) : Type 0 where
  pub entry : Entry
  pub entry_is : slice_get m.book i ≡ Some entry
  pub decided_is : is_set m.decided i ≡ true
  pub its_turn : slice_get m.logs log ≡ Some i
  pub answer_is : answer ≡ answered.Done
  pub resolvers_are : resolvers ≡ m.resolvers
  pub logs_are : logs ≡ slice_set m.logs log (suc i)
  pub shards_are : shards ≡ m.shards

-- how many entries a shard applied after a pull
abbrev pub applied_after : ShardProgress → (has limit : ℕ) → ℕ
applied_after progress has limit = max progress.applied (min has (progress.applied + limit))

-- a shard applied what its log has
pub record ShardPulled (m : Machine) (shard limit : ℕ) (answer : Answered) (resolvers logs : List ℕ)
    (shards : List ShardProgress) : Type 0 where
  pub progress : ShardProgress
  pub progress_is : slice_get m.shards shard ≡ Some progress
  pub has : ℕ
  pub has_is : slice_get m.logs (log_of (length m.logs) shard) ≡ Some has
  pub answer_is : answer ≡ answered.Version (last_version (take (applied_after progress has limit) m.book))
  pub resolvers_are : resolvers ≡ m.resolvers
  pub logs_are : logs ≡ m.logs
  pub shards_are : shards
      ≡ slice_set m.shards shard (record progress { applied = applied_after progress has limit })

-- a shard raised its floor
pub record ShardForgot (m : Machine) (shard version : ℕ) (answer : Answered) (resolvers logs : List ℕ)
    (shards : List ShardProgress) : Type 0 where
  pub progress : ShardProgress
  pub progress_is : slice_get m.shards shard ≡ Some progress
  pub served : version ≤ version_of_shard m.book progress
  pub answer_is : answer ≡ answered.Version (max progress.floor version)
  pub resolvers_are : resolvers ≡ m.resolvers
  pub logs_are : logs ≡ m.logs
  pub shards_are : shards ≡ slice_set m.shards shard (record progress { floor = max progress.floor version })

-- a shard's log dropped messages
pub record ShardPopped (m : Machine) (shard : ℕ) (answer : Answered) (resolvers logs : List ℕ)
    (shards : List ShardProgress) : Type 0 where
  pub progress : ShardProgress
  pub progress_is : slice_get m.shards shard ≡ Some progress
  pub answer_is : answer ≡ answered.Version (version_of_shard m.book progress)
  pub resolvers_are : resolvers ≡ m.resolvers
  pub logs_are : logs ≡ m.logs
  pub shards_are : shards
      ≡ slice_set m.shards shard (record progress { popped = version_of_shard m.book progress })

-- a resolver, a log or a shard went on
abbrev pub RoleWent : Machine → Step → Answered → (resolvers logs : List ℕ) → List ShardProgress → Type 0
RoleWent m (step.Resolve i resolver) answer resolvers logs shards =
    ResolverTook m i resolver answer resolvers logs shards
RoleWent m (step.Push i log) answer resolvers logs shards = LogTook m i log answer resolvers logs shards
RoleWent m (step.Pull shard limit) answer resolvers logs shards =
    ShardPulled m shard limit answer resolvers logs shards
RoleWent m (step.Forget shard version) answer resolvers logs shards =
    ShardForgot m shard version answer resolvers logs shards
RoleWent m (step.Pop shard) answer resolvers logs shards = ShardPopped m shard answer resolvers logs shards
RoleWent m taken answer resolvers logs shards = ⊥

-- the verdicts of a resolver that took the entry reached the entry's proxy, which waited for them
pub record VerdictsReached (m : Machine) (i resolver : ℕ) (answer : Answered) (proxy : ℕ) (commit_proxy : CommitProxy)
    (stage : Stage) (decided verdicts acknowledgements : List Bool) : Type 0 where
  pub awaited : awaits commit_proxy i (FromResolver resolver) ≡ true
  pub proxy_is : slice_get m.entry_proxies i ≡ Some proxy
  pub taken : ℕ
  pub taken_is : slice_get m.resolvers resolver ≡ Some taken
  pub took : i < taken
  pub answer_is : answer ≡ answered.Done
  pub stage_is : stage ≡ commit_proxy.stage
  pub decided_is : decided ≡ m.decided
  pub verdicts_are : verdicts ≡ slice_set commit_proxy.verdicts_received resolver true
  pub acknowledgements_are : acknowledgements ≡ commit_proxy.acknowledgements_received

-- a proxy decided its batch, once it had the verdicts of each resolver that is asked
pub record BatchDecided (m : Machine) (own : ℕ) (answer : Answered) (proxy : ℕ) (commit_proxy : CommitProxy)
    (stage : Stage) (decided verdicts acknowledgements : List Bool) : Type 0 where
  pub own_is : own ≡ proxy
  pub was_resolving : commit_proxy.stage ≡ Resolving
  pub entry : Entry
  pub entry_is : slice_get m.book commit_proxy.entry ≡ Some entry
  pub whole : first_missing
      (λ resolver. is_needed m.config.resolver_splits resolver (seen_before m.book commit_proxy.entry) entry) 0
      commit_proxy.verdicts_received
      ≡ None
  pub answer_is : answer
      ≡ answered.Decided (outcomes_on m.config.resolver_splits (seen_before m.book commit_proxy.entry) entry)
  pub stage_is : stage ≡ Logging
  pub decided_is : decided ≡ slice_set m.decided commit_proxy.entry true
  pub verdicts_are : verdicts ≡ []
  pub acknowledgements_are : acknowledgements ≡ replicate (length m.logs) false

-- the acknowledgement of a log that took the entry reached the entry's proxy, which waited for it
pub record AcknowledgementReached (m : Machine) (i log : ℕ) (answer : Answered) (proxy : ℕ)
    (commit_proxy : CommitProxy) (stage : Stage) (decided verdicts acknowledgements : List Bool) : Type 0 where
  pub awaited : awaits commit_proxy i (FromLog log) ≡ true
  pub proxy_is : slice_get m.entry_proxies i ≡ Some proxy
  pub taken : ℕ
  pub taken_is : slice_get m.logs log ≡ Some taken
  pub took : i < taken
  pub answer_is : answer ≡ answered.Done
  pub stage_is : stage ≡ commit_proxy.stage
  pub decided_is : decided ≡ m.decided
  pub verdicts_are : verdicts ≡ commit_proxy.verdicts_received
  pub acknowledgements_are : acknowledgements ≡ slice_set commit_proxy.acknowledgements_received log true

-- a proxy went on with its batch
abbrev pub ProxyWent : Machine → Step → Answered → ℕ → CommitProxy → Stage
    → (decided verdicts acknowledgements : List Bool) → Type 0
ProxyWent m (step.Verdict i resolver) answer proxy commit_proxy stage decided verdicts acknowledgements =
    VerdictsReached m i resolver answer proxy commit_proxy stage decided verdicts acknowledgements
ProxyWent m (step.Decide own) answer proxy commit_proxy stage decided verdicts acknowledgements =
    BatchDecided m own answer proxy commit_proxy stage decided verdicts acknowledgements
ProxyWent m (step.Logged i log) answer proxy commit_proxy stage decided verdicts acknowledgements =
    AcknowledgementReached m i log answer proxy commit_proxy stage decided verdicts acknowledgements
ProxyWent m taken answer proxy commit_proxy stage decided verdicts acknowledgements = ⊥
