-- Roles that fail: when one does and which one, and what becomes of the steps that come to it and of the others.
use Rattle.std.specs.Prelude.{◌≡◌, ◌⊎◌, ℕ, Bool, true, false, List, length, Option, Some, Result, Err, slice_get}
use Rattle.std.specs.List.{AllByRecursion}
use Rattle.fdb_keys.specs.declared.refusal.Refusal.{Refusal}
use Rattle.fdb_keys.specs.declared.refusal.Refusal.TheVariants.{NoMemory, Unknown, Failed}
use Rattle.fdb_keys.specs.Points.{Point}
use Rattle.fdb_keys.specs.Ranges.{in_range}
use Rattle.fdb_txn.specs.rules.Owners.{first_owner}
use Rattle.fdb_log.specs.Messages.{log_of}
use Rattle.fdb_proxy.specs.declared.config.Config.{Config}
use Rattle.fdb_client.specs.declared.program.Transcript.{Transcript}
use Rattle.fdb_client.specs.Programs.{program, decided}
use Rattle.fdb_roles.specs.Spots.{WroteNothing}
use Rattle.fdb_machine.specs.headline.Traces.{IsTraceOf}
use Rattle.fdb_machine.specs.machine.Failures.{Failures, State}
use Rattle.fdb_machine.specs.machine.Machine.{Machine}
use Rattle.fdb_machine.specs.machine.Sessions.{open_at}
use Rattle.fdb_machine.specs.machine.Steps.{next, answer_of, after}
use Rattle.fdb_machine.specs.machine.Worlds.{IsStep, IsRun}
use Rattle.fdb_machine.specs.declared.step.Answered.{Answered}
use Rattle.fdb_machine.specs.machine.AnyStep.{Step}
use Rattle.fdb_machine.specs.declared.step.AnyStep.TheVariants as step

-- one of the roles that may fail, by its number
pub data Role : Type 0 where
  ACommitProxy : (proxy : ℕ) → Role
  AResolver : (resolver : ℕ) → Role
  ALog : (log : ℕ) → Role
  AShard : (shard : ℕ) → Role

-- whether the role has failed, if there is such a one
abbrev pub flag_of : Failures → Role → Option Bool
flag_of failed (ACommitProxy proxy) = slice_get failed.commit_proxies proxy
flag_of failed (AResolver resolver) = slice_get failed.resolvers resolver
flag_of failed (ALog log) = slice_get failed.logs log
flag_of failed (AShard shard) = slice_get failed.shards shard

-- it has
abbrev pub HasFailed : Failures → Role → Type 0
HasFailed failed role = flag_of failed role ≡ Some true

-- memory didn't run out in the step
abbrev pub HadMemory : Result Answered Refusal → Type 0
HadMemory result = result ≡ Err NoMemory → ⊥

-- Over a step nothing fails unless memory ran out in it, and what has failed stays so.
abbrev pub RolesFailForMemory : Type 0
RolesFailForMemory =
    (old new : State) (one_step : Step) (result : Result Answered Refusal) → IsStep old one_step result new
    → (HadMemory result → new.failed ≡ old.failed)
    × ((role : Role) → HasFailed old.failed role → HasFailed new.failed role)

-- so over any steps one after another
abbrev pub FailedRolesStayFailed : Type 0
FailedRolesStayFailed =
    (old new : State) (steps : List Step) (answers : List (Result Answered Refusal)) → IsRun old steps answers new
    → (role : Role) → HasFailed old.failed role → HasFailed new.failed role

-- over every trace in which memory never ran out no role has failed
abbrev pub NoneFailsWithMemory : Type 0
NoneFailsWithMemory =
    (config : Config) (steps : List Step) (answers : List (Result Answered Refusal)) (world : State)
    → IsTraceOf config steps answers world → AllByRecursion HadMemory answers
    → (role : Role) → HasFailed world.failed role → ⊥

-- the step hands the role something to take: to a commit proxy its batch, to a resolver or a log an entry, to a shard
-- messages
abbrev pub IsTakenBy : Step → Role → Type 0
IsTakenBy (step.Seal proxy advance) role = role ≡ ACommitProxy proxy
IsTakenBy (step.Resolve entry resolver) role = role ≡ AResolver resolver
IsTakenBy (step.Push entry log) role = role ≡ ALog log
IsTakenBy (step.Pull shard limit) role = role ≡ AShard shard
IsTakenBy one_step role = ⊥

-- Over a step each role is as it was, but that the one that takes it may have failed.
abbrev pub OnlyTheTakerFails : Type 0
OnlyTheTakerFails =
    (old new : State) (one_step : Step) (result : Result Answered Refusal) → IsStep old one_step result new
    → (role : Role)
    → (flag_of new.failed role ≡ flag_of old.failed role) ⊎ (IsTakenBy one_step role × HasFailed new.failed role)

module _ (m : Machine) where
  -- the role is the entry's commit proxy
  abbrev pub IsProxyOf : ℕ → Role → Type 0
  IsProxyOf entry role =
      (proxy : ℕ) × (slice_get m.entry_proxies entry ≡ Some proxy) × (role ≡ ACommitProxy proxy)

  -- the role is the shard, or its log
  abbrev pub IsShardOrItsLog : ℕ → Role → Type 0
  IsShardOrItsLog shard role = (role ≡ AShard shard) ⊎ (role ≡ ALog (log_of (length m.logs) shard))

  -- the role is the shard that holds the point
  abbrev pub IsHolder : Point → Role → Type 0
  IsHolder point role = role ≡ AShard (first_owner m.config.shard_splits point)

  -- what holds of the session's open transaction, if it has one
  abbrev pub OfOpened : ℕ → (Transcript → Type 0) → Type 0
  OfOpened session P = (transcript : Transcript) × (open_at m.sessions session ≡ Some transcript) × P transcript

  -- The step comes to the role. A read of a key comes to the key's shard, unless the transaction's own operations
  -- decide the key, and a read of a range to each shard that holds a point of it. A transaction that wrote something is
  -- submitted to the commit proxy, and what is told of an entry goes to the entry's. A shard pulls from its log, and
  -- has it drop messages.
  abbrev pub ComesTo : Step → Role → Type 0
  ComesTo (step.Get session key snapshot) role =
      OfOpened session (λ transcript. (decided (program transcript.ops) key ≡ false) × IsHolder key role)
  ComesTo (step.GetRange session range limit is_reverse snapshot) role =
      OfOpened session (λ transcript. (point : Point) × (in_range range point ≡ true) × IsHolder point role)
  ComesTo (step.Submit session proxy) role =
      OfOpened session (λ transcript. (WroteNothing transcript → ⊥) × (role ≡ ACommitProxy proxy))
  ComesTo (step.Seal proxy advance) role = role ≡ ACommitProxy proxy
  ComesTo (step.Resolve entry resolver) role = role ≡ AResolver resolver
  ComesTo (step.Verdict entry resolver) role = IsProxyOf entry role
  ComesTo (step.Decide proxy) role = role ≡ ACommitProxy proxy
  ComesTo (step.Push entry log) role = role ≡ ALog log
  ComesTo (step.Logged entry log) role = IsProxyOf entry role
  ComesTo (step.Report proxy) role = role ≡ ACommitProxy proxy
  ComesTo (step.Answer proxy) role = role ≡ ACommitProxy proxy
  ComesTo (step.Pull shard limit) role = IsShardOrItsLog shard role
  ComesTo (step.Forget shard version) role = role ≡ AShard shard
  ComesTo (step.Pop shard) role = IsShardOrItsLog shard role
  ComesTo one_step role = ⊥

-- Where no role has failed that a step comes to, and memory doesn't run out in it, it is answered as the machine
-- answers it, and leaves the machine that this goes on to.
abbrev pub WorkingRolesAnswer : Type 0
WorkingRolesAnswer =
    (old new : State) (one_step : Step) (result : Result Answered Refusal) → IsStep old one_step result new
    → HadMemory result
    → ((role : Role) → ComesTo old.machine one_step role → HasFailed old.failed role → ⊥)
    → (result ≡ answer_of (next old.machine one_step)) × (new.machine ≡ after old.machine (next old.machine one_step))

-- Where a role has failed that a step comes to, it is refused as failed, but as unknown where the machine refuses it
-- so, unless memory runs out in it.
abbrev pub FailedRolesAnswer : Type 0
FailedRolesAnswer =
    (old new : State) (one_step : Step) (result : Result Answered Refusal) → IsStep old one_step result new
    → HadMemory result
    → (role : Role) → ComesTo old.machine one_step role → HasFailed old.failed role
    → (next old.machine one_step ≡ Err Unknown → result ≡ Err Unknown)
    × ((next old.machine one_step ≡ Err Unknown → ⊥) → result ≡ Err Failed)

-- So a step answers what the machine does, or that memory ran out, or that a role has failed that it comes to.
abbrev pub AnswersAreTheMachines : Type 0
AnswersAreTheMachines =
    (old new : State) (one_step : Step) (result : Result Answered Refusal) → IsStep old one_step result new
    → (result ≡ answer_of (next old.machine one_step)) ⊎ ((result ≡ Err NoMemory) ⊎ ((result ≡ Err Failed)
    × ((role : Role) × ComesTo old.machine one_step role × HasFailed old.failed role)))

-- a step that is refused, for whatever reason, leaves the machine as it was
abbrev pub RefusedStepsLeaveTheMachine : Type 0
RefusedStepsLeaveTheMachine =
    (old new : State) (one_step : Step) (why : Refusal) → IsStep old one_step (Err why) new
    → new.machine ≡ old.machine
