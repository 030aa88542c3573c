-- What becomes of steps where a role has failed, and what a step may leave in which memory ran out.
use Rattle.std.specs.Prelude.{◌≡◌, true, false, [], ◌∷◌, Some, None, Result, Ok, Err, codes}
use Rattle.fdb_keys.specs.declared.refusal.Refusal.{Refusal}
use Rattle.fdb_keys.specs.declared.refusal.Refusal.TheVariants.{NoMemory, Unknown, Failed, WrongState}
use Rattle.fdb_mutations.specs.declared.mutation.Mutation.TheVariants.{Set}
use Rattle.fdb_proxy.specs.declared.config.Config.{Config}
use Rattle.fdb_client.specs.declared.program.Op.TheVariants as op
use Rattle.fdb_client.specs.declared.program.Reply.TheVariants as reply
use Rattle.fdb_client.specs.declared.program.Transcript.{Transcript}
use Rattle.fdb_roles.specs.SmallBooks.{plain, two_in_one_entry, does_nothing, reads_and_sets}
use Rattle.fdb_machine.specs.headline.Examples.{reads_only}
use Rattle.fdb_machine.specs.machine.Failures.{Failures, State, none_failed, asks_failed, submits_failed}
use Rattle.fdb_machine.specs.machine.InFlight.{in_flight}
use Rattle.fdb_machine.specs.machine.Machine.{Machine, Transition}
use Rattle.fdb_machine.specs.machine.Roles.{Resolving}
use Rattle.fdb_machine.specs.machine.Steps.{next, answer_of, after}
use Rattle.fdb_machine.specs.machine.Worlds.{IsStep, first_state, idle_proxy, start, taken_of}
use Rattle.fdb_machine.specs.declared.in_flight.InFlight.{InFlight}
use Rattle.fdb_machine.specs.declared.step.AnyStep.TheVariants as step

-- one entry, which the proxy decided, and which nobody took
abbrev pub one_entry : Machine
one_entry = record (start plain) {
  book = two_in_one_entry;
  entry_proxies = 0 ∷ [];
  decided = true ∷ [];
}

-- with such roles failed
abbrev pub after_failures : Failures → State
after_failures failed = record { machine = one_entry; failed = failed }

abbrev pub resolver_failed : Failures
resolver_failed = record (none_failed plain) { resolvers = true ∷ [] }

abbrev pub log_failed : Failures
log_failed = record (none_failed plain) { logs = true ∷ [] }

abbrev pub proxy_failed : Failures
proxy_failed = record (none_failed plain) { commit_proxies = true ∷ [] }

-- A failed role refuses what comes to it, what isn't there is refused as that, and other roles go on. A shard asks its
-- log for messages, so it can do nothing where that one has failed.
abbrev pub FailedRolesRefuse : Type 0
FailedRolesRefuse =
    (taken_of (after_failures resolver_failed) (step.Resolve 0 0) ≡ Err Failed)
    × (taken_of (after_failures resolver_failed) (step.Resolve 7 0) ≡ Err Unknown)
    × (taken_of (after_failures log_failed) (step.Push 0 0) ≡ Err Failed)
    × (taken_of (after_failures log_failed) (step.Push 0 7) ≡ Err Unknown)
    × (taken_of (after_failures log_failed) (step.Pull 0 9) ≡ Err Failed)
    × (taken_of (after_failures log_failed) (step.Resolve 0 0)
    ≡ taken_of (after_failures (none_failed plain)) (step.Resolve 0 0))
    × (taken_of (after_failures proxy_failed) (step.Decide 0) ≡ Err Failed)
    × (taken_of (after_failures proxy_failed) (step.Seal 7 100) ≡ Err Unknown)

-- two shards that part the keys at m, of which the second one has failed
abbrev pub parted : Config
parted = record plain { shard_splits = codes "m" ∷ [] }

abbrev pub second_failed : Failures
second_failed = record (none_failed parted) { shards = false ∷ true ∷ [] }

-- of session 0, which set the key z
abbrev pub sets_z : Transcript
sets_z = record does_nothing { ops = (op.Write (Set (codes "z") (codes "1")), reply.Done) ∷ [] }

-- A read asks the failed shard for its own keys alone, and for none that the transaction's own operations decide; a
-- read of a range asks each shard that holds some of it.
abbrev pub ReadsAskTheirShards : Type 0
ReadsAskTheirShards =
    (asks_failed (start parted) second_failed does_nothing (op.Get (codes "z") false) ≡ true)
    × (asks_failed (start parted) second_failed does_nothing (op.Get (codes "a") false) ≡ false)
    × (asks_failed (start parted) second_failed sets_z (op.Get (codes "z") false) ≡ false)
    × (asks_failed (start parted) second_failed does_nothing
    (op.Range (record { begin = codes "a"; end = codes "z" }) 1 false false) ≡ true)
    × (asks_failed (start parted) second_failed does_nothing
    (op.Range (record { begin = codes "a"; end = codes "m" }) 1 false false) ≡ false)

-- One that wrote something comes to its proxy; one that wrote nothing comes to none.
abbrev pub ReadersUseNoProxy : Type 0
ReadersUseNoProxy =
    (submits_failed one_entry proxy_failed (Some (reads_and_sets 0 None)) 0 ≡ true)
    × (submits_failed one_entry proxy_failed (Some (reads_only false None)) 0 ≡ false)
    × (submits_failed one_entry proxy_failed None 0 ≡ false)

-- Where memory ran out, the resolver that takes an entry may have failed; not another role, nor one in a step that has
-- no role fail, and the machine is the one that it was. Nobody is refused as failed where no role is.
abbrev pub TheStepsOwnRoleFails : Type 0
TheStepsOwnRoleFails =
    IsStep (after_failures (none_failed plain)) (step.Resolve 0 0) (Err NoMemory) (after_failures resolver_failed)
    × IsStep (after_failures (none_failed plain)) (step.Resolve 0 0) (Err NoMemory) (after_failures (none_failed plain))
    × (IsStep (after_failures (none_failed plain)) (step.Resolve 0 0) (Err NoMemory) (after_failures log_failed) → ⊥)
    × (IsStep (after_failures (none_failed plain)) (step.Verdict 0 0) (Err NoMemory) (after_failures proxy_failed) → ⊥)
    × (IsStep (after_failures (none_failed plain)) (step.Resolve 0 0) (Err NoMemory) (first_state plain) → ⊥)
    × (IsStep (after_failures (none_failed plain)) (step.Resolve 0 0) (Err Failed)
    (after_failures (none_failed plain)) → ⊥)

-- the entry is resolved
abbrev pub resolved : Result Transition Refusal
resolved = next one_entry (step.Resolve 0 0)

-- the machine with that, and such roles failed
abbrev pub once_resolved : Failures → State
once_resolved failed = record { machine = after one_entry resolved; failed = failed }

-- A resolver that answered hasn't failed, and one that has failed doesn't work again.
abbrev pub WhoAnswersHasNotFailed : Type 0
WhoAnswersHasNotFailed =
    IsStep (after_failures (none_failed plain)) (step.Resolve 0 0) (answer_of resolved)
    (once_resolved (none_failed plain))
    × (IsStep (after_failures (none_failed plain)) (step.Resolve 0 0) (answer_of resolved)
    (once_resolved resolver_failed) → ⊥)
    × IsStep (after_failures resolver_failed) (step.Resolve 0 0) (Err Failed) (after_failures resolver_failed)
    × (IsStep (after_failures resolver_failed) (step.Resolve 0 0) (answer_of resolved)
    (once_resolved resolver_failed) → ⊥)
    × (IsStep (after_failures resolver_failed) (step.Resolve 0 0) (Err Failed)
    (after_failures (none_failed plain)) → ⊥)
    × (IsStep (after_failures resolver_failed) (step.Resolve 0 0) (Err NoMemory)
    (after_failures (none_failed plain)) → ⊥)

-- two resolvers and three logs; the commit proxy has the batch of entry 1 in flight
abbrev pub one_in_flight : Machine
one_in_flight = record (start (record plain { logs = 3; resolver_splits = codes "m" ∷ [] })) {
  commit_proxies = record idle_proxy { stage = Resolving; entry = 1 } ∷ [];
}

-- A commit proxy that has failed tells nothing of its batch, and one that works tells it, whatever else has failed. One
-- without a batch is in the wrong state, and there is no other one.
abbrev pub FailedProxiesTellNothing : Type 0
FailedProxiesTellNothing =
    (in_flight (record { machine = one_in_flight; failed = proxy_failed }) 0 ≡ Err Failed)
    × (in_flight (record { machine = one_in_flight; failed = log_failed }) 0 ≡ Ok told)
    × (in_flight (record { machine = one_in_flight; failed = none_failed plain }) 0 ≡ Ok told)
    × (in_flight (record { machine = one_in_flight; failed = proxy_failed }) 1 ≡ Err Unknown)
    × (in_flight (after_failures proxy_failed) 0 ≡ Err Failed)
    × (in_flight (after_failures (none_failed plain)) 0 ≡ Err WrongState)
  where
    told : InFlight
    told = record { entry = 1; resolvers = 2; logs = 3 }
