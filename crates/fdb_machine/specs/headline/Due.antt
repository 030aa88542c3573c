-- Which steps of roles are due: messages are delivered where their step made them, in their turn, and a proxy decides
-- where it has all verdicts that it needs. Such a step is accepted, and one that isn't due isn't, as what accepted
-- steps are answered says.
use Rattle.std.specs.Prelude.{◌≡◌, ◌<◌, ℕ, suc, true, false, List, length, Some, Result, Ok, Err}
use Rattle.fdb_keys.specs.declared.refusal.Refusal.{Refusal}
use Rattle.fdb_keys.specs.declared.refusal.Refusal.TheVariants.{NotYet}
use Rattle.fdb_txn.specs.book.Book.{Place}
use Rattle.fdb_proxy.specs.declared.config.Config.{Config}
use Rattle.fdb_machine.specs.headline.Answers.{IsAskedAt, IsVerdictDue, IsPushed, IsAcknowledgementDue}
use Rattle.fdb_machine.specs.headline.Readings.{Readings, readings_of}
use Rattle.fdb_machine.specs.headline.Traces.{IsTraceOf}
use Rattle.fdb_machine.specs.machine.Failures.{State, uses_failed}
use Rattle.fdb_machine.specs.machine.Steps.{ran_out}
use Rattle.fdb_machine.specs.machine.Worlds.{IsStep}
use Rattle.fdb_machine.specs.declared.step.Answered.{Answered}
use Rattle.fdb_machine.specs.machine.AnyStep.{Step}
use Rattle.fdb_machine.specs.declared.step.AnyStep.TheVariants as step

module _ (config : Config) (r : Readings) where
  -- the entry is the next one for the resolver
  pub record IsResolverDue (entry resolver : ℕ) : Type 0 where
    pub is_there : entry < length r.book
    pub exists : resolver < suc (length config.resolver_splits)
    pub its_turn : r.progress.resolved resolver ≡ entry

  -- the verdicts on the entry came of each resolver below the number that is asked about a place
  abbrev pub CameBelow : ℕ → ℕ → Type 0
  CameBelow entry count =
      (resolver p : ℕ) (there : Place × List Place) → resolver < count → IsAskedAt config r entry resolver p there
      → r.progress.verdicts_came entry resolver ≡ true

  -- a step that delivers or takes a message is due; of others nothing is said here
  abbrev pub IsDue : Step → Type 0
  IsDue (step.Resolve entry resolver) = IsResolverDue entry resolver
  IsDue (step.Verdict entry resolver) = IsVerdictDue config r entry resolver
  IsDue (step.Decide proxy) =
      (entry : ℕ) × (r.progress.resolving proxy ≡ Some entry) × CameBelow entry (suc (length config.resolver_splits))
  IsDue (step.Push entry log) = IsPushed config r entry log
  IsDue (step.Logged entry log) = IsAcknowledgementDue config r entry log
  IsDue one_step = ⊥

  -- the proxy waits for verdicts on an entry, and the least resolver that is asked about it and whose verdicts didn't
  -- come is this one
  pub record IsLeastMissing (proxy resolver : ℕ) : Type 0 where
    pub entry : ℕ
    pub waits : r.progress.resolving proxy ≡ Some entry
    pub exists : resolver < suc (length config.resolver_splits)
    pub p : ℕ
    pub there : Place × List Place
    pub asked : IsAskedAt config r entry resolver p there
    pub missing : r.progress.verdicts_came entry resolver ≡ false
    pub others : CameBelow entry resolver

-- After every trace a step that is due is accepted, unless memory runs out in it or it uses a role that has failed.
abbrev pub WhatIsDueIsAccepted : Type 0
WhatIsDueIsAccepted =
    (config : Config) (steps : List Step) (answers : List (Result Answered Refusal)) (one_step : Step)
    (result : Result Answered Refusal) (world later : State)
    → IsTraceOf config steps answers world → IsStep world one_step result later
    → ran_out result ≡ false → uses_failed world.machine world.failed one_step ≡ false
    → IsDue config (readings_of steps answers) one_step → (answer : Answered) × (result ≡ Ok answer)

-- And a proxy whose verdicts haven't all come is told to wait for the least resolver of which they are missing.
abbrev pub DecisionsWait : Type 0
DecisionsWait =
    (config : Config) (steps : List Step) (answers : List (Result Answered Refusal)) (proxy resolver : ℕ)
    (result : Result Answered Refusal) (world later : State)
    → IsTraceOf config steps answers world → IsStep world (step.Decide proxy) result later
    → ran_out result ≡ false → uses_failed world.machine world.failed (step.Decide proxy) ≡ false
    → IsLeastMissing config (readings_of steps answers) proxy resolver → result ≡ Err (NotYet resolver)
