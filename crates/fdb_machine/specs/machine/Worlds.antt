-- The world as the machine with the roles that have failed: what it starts as, what a step may do to it, and a run of
-- steps.
use Rattle.std.specs.Prelude.{◌≡◌, ◌⊎◌, suc, List, [], ◌∷◌, length, replicate, Result, Err}
use Rattle.std.specs.FinMap.{empty}
use Rattle.fdb_keys.specs.declared.refusal.Refusal.{Refusal}
use Rattle.fdb_keys.specs.declared.refusal.Refusal.TheVariants.{NoMemory}
use Rattle.fdb_txn.specs.Limits.{window}
use Rattle.fdb_proxy.specs.declared.config.Config.{Config}
use Rattle.fdb_machine.specs.machine.Roles.{CommitProxy, Idle}
use Rattle.fdb_machine.specs.machine.Failures.{State, FailsIn, none_failed, uses_failed, unless_failed}
use Rattle.fdb_machine.specs.machine.Machine.{Machine, Transition}
use Rattle.fdb_machine.specs.machine.Steps.{next, answer_of, after}
use Rattle.fdb_machine.specs.declared.step.Answered.{Answered}
use Rattle.fdb_machine.specs.machine.AnyStep.{Step}

-- a commit proxy without a batch, at which nobody waits
abbrev pub idle_proxy : CommitProxy
idle_proxy = record
    { waiting = []; in_flight = []; stage = Idle; entry = 0; verdicts_received = []; acknowledgements_received = [] }

-- the machine before its first step
abbrev pub start : Config → Machine
start config =
    record {
      config = config;
      book = [];
      entry_proxies = [];
      decided = [];
      pending = [];
      window = window;
      commit_proxies = replicate config.proxies idle_proxy;
      resolvers = replicate (suc (length config.resolver_splits)) 0;
      logs = replicate config.logs 0;
      shards = replicate (suc (length config.shard_splits)) (record { applied = 0; floor = 0; popped = 0 });
      grv_proxies = replicate config.proxies [];
      sessions = empty;
      committed = 0;
      acknowledged = [];
    }

-- the state before the first step, at which no role has failed
abbrev pub first_state : Config → State
first_state config = record { machine = start config; failed = none_failed config }

-- what a step comes to: what the machine does, unless the step uses a role that has failed
abbrev pub taken_of : State → Step → Result Transition Refusal
taken_of old step = unless_failed (uses_failed old.machine old.failed step) (next old.machine step)

-- what a step leaves in which memory ran out: all as it was, but that a role that takes the step may have failed
abbrev pub IsLeft : State → Step → State → Type 0
IsLeft old step new =
    (new.machine ≡ old.machine) × ((new.failed ≡ old.failed) ⊎ FailsIn step old.failed new.failed)

-- A step answers what it comes to, and leaves what the machine goes on to, unless memory runs out. Then all is as it
-- was, but that a role that takes the step may have failed.
abbrev pub IsStep : State → Step → Result Answered Refusal → State → Type 0
IsStep old step result new =
    ((result ≡ answer_of (taken_of old step))
    × (new ≡ record { machine = after old.machine (taken_of old step); failed = old.failed }))
    ⊎ ((result ≡ Err NoMemory) × IsLeft old step new)

-- steps one after another, with their answers
abbrev pub IsRun : State → List Step → List (Result Answered Refusal) → State → Type 0
IsRun old [] [] new = new ≡ old
IsRun old (step ∷ steps) (answer ∷ answers) new = (mid : State) × IsStep old step answer mid
    × IsRun mid steps answers new
IsRun old [] (answer ∷ answers) new = ⊥
IsRun old (step ∷ steps) [] new = ⊥
