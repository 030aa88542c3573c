-- Where no role has failed, each step is taken as the machine says.
use Rattle.std.proofs.Common.{◌≡◌, refl, ap, ap₂, ℕ, zero, suc, Bool, true, false, ◌&&◌, ◌||◌, not, List, [], ◌∷◌}
use Rattle.std.proofs.Common.{replicate, length, slice_get, Option, Some, None}
use Rattle.std.specs.List.{list_any}
use Rattle.fdb_keys.specs.Points.{Point}
use Rattle.fdb_txn.specs.rules.Owners.{first_owner}
use Rattle.fdb_log.specs.Messages.{log_of}
use Rattle.fdb_proxy.specs.declared.config.Config.{Config}
use Rattle.fdb_client.specs.declared.program.Op.{Op}
use Rattle.fdb_client.specs.declared.program.Op.TheVariants as op
use Rattle.fdb_client.specs.declared.program.Transcript.{Transcript}
use Rattle.fdb_client.specs.Programs.{program, decided, is_read_only}
use Rattle.fdb_machine.specs.machine.ClientSteps.{shard_begins}
use Rattle.fdb_machine.specs.machine.Failures.{none_failed, reads_failed, submits_failed, tells_failed, uses_failed}
use Rattle.fdb_machine.specs.machine.Failures.{unless_failed}
use Rattle.fdb_machine.specs.machine.Machine.{Machine, is_set}
use Rattle.fdb_machine.specs.machine.Sessions.{open_at}
use Rattle.fdb_machine.specs.machine.Steps.{next}
use Rattle.fdb_machine.specs.machine.Worlds.{taken_of}
use Rattle.fdb_machine.specs.machine.AnyStep.{Step}
use Rattle.fdb_machine.specs.declared.step.AnyStep.TheVariants as step

-- no flag is set among flags that aren't
pub none-set : (n i : ℕ) → is_set (replicate n false) i ≡ false
none-set zero i = refl
none-set (suc n) zero = refl
none-set (suc n) (suc i) = none-set n i

none-and : (test : Bool) (flag : Bool) → flag ≡ false → (test && flag) ≡ false
none-and true flag unset = unset
none-and false flag unset = refl

none-any : {A : Type 0} (test : A → Bool) (xs : List A) → ((x : A) → test x ≡ false) → list_any test xs ≡ false
none-any test [] none = refl
none-any test (x ∷ xs) none = ap₂ (λ here later. here || later) (none x) (none-any test xs none)

module _ (config : Config) (m : Machine) where
  no-shard : (n : ℕ) → is_set (none_failed config).shards n ≡ false
  no-shard n = none-set (suc (length config.shard_splits)) n

  no-proxy : (n : ℕ) → is_set (none_failed config).commit_proxies n ≡ false
  no-proxy n = none-set config.proxies n

  none-read : (opened : Option Transcript) (operation : Op) → reads_failed m
      (none_failed config) opened operation ≡ false
  none-read None operation = refl
  none-read (Some transcript) (op.Get key snapshot) =
      none-and (not (decided (program transcript.ops) key)) _ (no-shard (first_owner m.config.shard_splits key))
  none-read (Some transcript) (op.Range range limit is_reverse snapshot) =
      none-any _ (shard_begins m.config.shard_splits range)
      (λ (point : Point). no-shard (first_owner m.config.shard_splits point))
  none-read (Some transcript) (op.Write mutation) = refl
  none-read (Some transcript) (op.AddRead range) = refl
  none-read (Some transcript) (op.AddWrite range) = refl

  none-submitted : (opened : Option Transcript) (proxy : ℕ)
      → submits_failed m (none_failed config) opened proxy ≡ false
  none-submitted None proxy = refl
  none-submitted (Some transcript) proxy = none-and (not (is_read_only transcript)) _ (no-proxy proxy)

  none-told : (to : Option ℕ) → tells_failed m (none_failed config) to ≡ false
  none-told None = refl
  none-told (Some proxy) = no-proxy proxy

  none-pulled : (shard log : ℕ) → (is_set (none_failed config).shards shard || is_set
      (none_failed config).logs log) ≡ false
  none-pulled shard log = ap₂ (λ one other. one || other) (no-shard shard) (none-set config.logs log)

  none-used : (one_step : Step) → uses_failed m (none_failed config) one_step ≡ false
  none-used (step.Ask session proxy) = refl
  none-used (step.Grant proxy) = refl
  none-used (step.Get session key snapshot) = none-read (open_at m.sessions session) (op.Get key snapshot)
  none-used (step.GetRange session range limit is_reverse snapshot) =
      none-read (open_at m.sessions session) (op.Range range limit is_reverse snapshot)
  none-used (step.Write session mutation) = refl
  none-used (step.AddRead session range) = refl
  none-used (step.AddWrite session range) = refl
  none-used (step.Submit session proxy) = none-submitted (open_at m.sessions session) proxy
  none-used (step.Seal proxy advance) = no-proxy proxy
  none-used (step.Resolve entry resolver) = none-set (suc (length config.resolver_splits)) resolver
  none-used (step.Verdict entry resolver) = none-told (slice_get m.entry_proxies entry)
  none-used (step.Decide proxy) = no-proxy proxy
  none-used (step.Push entry log) = none-set config.logs log
  none-used (step.Logged entry log) = none-told (slice_get m.entry_proxies entry)
  none-used (step.Report proxy) = no-proxy proxy
  none-used (step.Answer proxy) = no-proxy proxy
  none-used (step.Pull shard limit) = none-pulled shard (log_of (length m.logs) shard)
  none-used (step.Forget shard version) = no-shard shard
  none-used (step.Pop shard) = none-pulled shard (log_of (length m.logs) shard)
  none-used (step.Move range to) = refl
  none-used (step.Window window) = refl

-- so it comes to what the machine says
pub none-taken : (config : Config) (m : Machine) (one_step : Step)
    → taken_of (record { machine = m; failed = none_failed config }) one_step ≡ next m one_step
none-taken config m one_step =
    ap (λ (uses : Bool). unless_failed uses (next m one_step)) (none-used config m one_step)
