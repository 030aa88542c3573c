-- Roles that have failed, since memory ran out in them: which ones, which steps use one of them, and what becomes of
-- such a step.
use Rattle.std.specs.Prelude.{ℕ, suc, Bool, true, false, not, ◌&&◌, ◌||◌, List, length, replicate, Option, Some, None}
use Rattle.std.specs.Prelude.{Result, Ok, Err, slice_get, slice_set, ◌≡◌}
use Rattle.std.specs.List.{list_any}
use Rattle.fdb_keys.specs.declared.refusal.Refusal.{Refusal}
use Rattle.fdb_keys.specs.declared.refusal.Refusal.TheVariants.{Unknown, Failed}
use Rattle.fdb_txn.specs.rules.Owners.{first_owner}
use Rattle.fdb_log.specs.Messages.{log_of}
use Rattle.fdb_proxy.specs.declared.config.Config.{Config}
use Rattle.fdb_client.specs.declared.program.Op.{Op}
use Rattle.fdb_client.specs.declared.program.Op.TheVariants as op
use Rattle.fdb_client.specs.declared.program.Transcript.{Transcript}
use Rattle.fdb_client.specs.Programs.{program, decided, is_read_only}
use Rattle.fdb_machine.specs.machine.ClientSteps.{shard_begins}
use Rattle.fdb_machine.specs.machine.Machine.{Machine, Transition, is_set}
use Rattle.fdb_machine.specs.machine.Sessions.{open_at}
use Rattle.fdb_machine.specs.machine.AnyStep.{Step}
use Rattle.fdb_machine.specs.declared.step.AnyStep.TheVariants as step

-- for each role that may fail, by its number, whether it has
pub record Failures : Type 0 where
  pub commit_proxies : List Bool
  pub resolvers : List Bool
  pub logs : List Bool
  pub shards : List Bool

-- none has
abbrev pub none_failed : Config → Failures
none_failed config =
    record {
      commit_proxies = replicate config.proxies false;
      resolvers = replicate (suc (length config.resolver_splits)) false;
      logs = replicate config.logs false;
      shards = replicate (suc (length config.shard_splits)) false;
    }

-- the machine, and which of its roles have failed
pub record State : Type 0 where
  pub machine : Machine
  pub failed : Failures

module _ (m : Machine) (failed : Failures) where
  -- the shard that holds the point has failed
  abbrev pub has_failed_at : List ℕ → Bool
  has_failed_at point = is_set failed.shards (first_owner m.config.shard_splits point)

  -- A read asks a shard that has failed: the one that holds the key, unless the transaction's own operations decide it,
  -- or one that holds some of the range.
  abbrev pub asks_failed : Transcript → Op → Bool
  asks_failed transcript (op.Get key snapshot) = not (decided (program transcript.ops) key) && has_failed_at key
  asks_failed transcript (op.Range range limit is_reverse snapshot) =
      list_any has_failed_at (shard_begins m.config.shard_splits range)
  asks_failed transcript operation = false

  -- so does one of the session's open transaction, if it has one
  abbrev pub reads_failed : Option Transcript → Op → Bool
  reads_failed None operation = false
  reads_failed (Some transcript) operation = asks_failed transcript operation

  -- A transaction comes to a commit proxy that has failed; one that wrote nothing comes to none.
  abbrev pub submits_failed : Option Transcript → ℕ → Bool
  submits_failed None proxy = false
  submits_failed (Some transcript) proxy = not (is_read_only transcript) && is_set failed.commit_proxies proxy

  -- what is told of an entry comes to the entry's commit proxy, which has failed
  abbrev pub tells_failed : Option ℕ → Bool
  tells_failed None = false
  tells_failed (Some proxy) = is_set failed.commit_proxies proxy

  -- a shard asks its log for something, and one of both has failed
  abbrev pub pulls_failed : ℕ → Bool
  pulls_failed shard = is_set failed.shards shard || is_set failed.logs (log_of (length m.logs) shard)

  -- the step uses a role that has failed
  abbrev pub uses_failed : Step → Bool
  uses_failed (step.Ask session proxy) = false
  uses_failed (step.Grant proxy) = false
  uses_failed (step.Get session key snapshot) = reads_failed (open_at m.sessions session) (op.Get key snapshot)
  uses_failed (step.GetRange session range limit is_reverse snapshot) =
      reads_failed (open_at m.sessions session) (op.Range range limit is_reverse snapshot)
  uses_failed (step.Write session mutation) = false
  uses_failed (step.AddRead session range) = false
  uses_failed (step.AddWrite session range) = false
  uses_failed (step.Submit session proxy) = submits_failed (open_at m.sessions session) proxy
  uses_failed (step.Seal proxy advance) = is_set failed.commit_proxies proxy
  uses_failed (step.Resolve entry resolver) = is_set failed.resolvers resolver
  uses_failed (step.Verdict entry resolver) = tells_failed (slice_get m.entry_proxies entry)
  uses_failed (step.Decide proxy) = is_set failed.commit_proxies proxy
  uses_failed (step.Push entry log) = is_set failed.logs log
  uses_failed (step.Logged entry log) = tells_failed (slice_get m.entry_proxies entry)
  uses_failed (step.Report proxy) = is_set failed.commit_proxies proxy
  uses_failed (step.Answer proxy) = is_set failed.commit_proxies proxy
  uses_failed (step.Pull shard limit) = pulls_failed shard
  uses_failed (step.Forget shard version) = is_set failed.shards shard
  uses_failed (step.Pop shard) = pulls_failed shard
  uses_failed (step.Move range to) = false
  uses_failed (step.Window window) = false

-- A step that uses a role that has failed is refused so, unless it names something that isn't there.
abbrev pub unless_failed : Bool → Result Transition Refusal → Result Transition Refusal
unless_failed false transition = transition
unless_failed true (Ok transition) = Err Failed
unless_failed true (Err Unknown) = Err Unknown
unless_failed true (Err why) = Err Failed

-- Memory ran out in the step, and a role that takes it has failed: the commit proxy that seals, the resolver or the log
-- that takes an entry, or the shard that pulls. No other step has a role fail.
abbrev pub FailsIn : Step → Failures → Failures → Type 0
FailsIn (step.Ask session proxy) old new = ⊥
FailsIn (step.Grant proxy) old new = ⊥
FailsIn (step.Get session key snapshot) old new = ⊥
FailsIn (step.GetRange session range limit is_reverse snapshot) old new = ⊥
FailsIn (step.Write session mutation) old new = ⊥
FailsIn (step.AddRead session range) old new = ⊥
FailsIn (step.AddWrite session range) old new = ⊥
FailsIn (step.Submit session proxy) old new = ⊥
FailsIn (step.Seal proxy advance) old new =
    new ≡ record old { commit_proxies = slice_set old.commit_proxies proxy true }
FailsIn (step.Resolve entry resolver) old new = new ≡ record old { resolvers = slice_set old.resolvers resolver true }
FailsIn (step.Verdict entry resolver) old new = ⊥
FailsIn (step.Decide proxy) old new = ⊥
FailsIn (step.Push entry log) old new = new ≡ record old { logs = slice_set old.logs log true }
FailsIn (step.Logged entry log) old new = ⊥
FailsIn (step.Report proxy) old new = ⊥
FailsIn (step.Answer proxy) old new = ⊥
FailsIn (step.Pull shard limit) old new = new ≡ record old { shards = slice_set old.shards shard true }
FailsIn (step.Forget shard version) old new = ⊥
FailsIn (step.Pop shard) old new = ⊥
FailsIn (step.Move range to) old new = ⊥
FailsIn (step.Window window) old new = ⊥
