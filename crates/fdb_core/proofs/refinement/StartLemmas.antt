-- The roles that took nothing, what they keep of no entries, and what a legal configuration says.
use Rattle.std.proofs.Common.{◌≡◌, ◌∙◌, refl, sym, ap, ap₂, subst, ℕ, zero, suc, ◌+◌, List, [], ◌∷◌, ◌++◌, length, map}
use Rattle.std.proofs.Common.{replicate, false, Some, slice_get, length-append, arith}
use Rattle.std.proofs.lemmas.List.{length-replicate}
use Rattle.std.specs.List.{AllByRecursion}
use Rattle.fdb_keys.specs.Points.{Point}
use Rattle.fdb_txn.specs.rules.Splits.{piece}
use Rattle.fdb_sequencer.specs.declared.dated.Dated.{Dated}
use Rattle.fdb_sequencer.specs.Sequencer.{fresh}
use Rattle.fdb_log.specs.Logs.{IsNewLog}
use Rattle.fdb_log.specs.Messages.{log_of}
use Rattle.fdb_storage.specs.Shards.{IsNewShard}
use Rattle.fdb_proxy.specs.Askers.{Asker}
use Rattle.fdb_proxy.specs.declared.config.Config.{Config}
use Rattle.fdb_proxy.specs.CommitProxies.{CommitProxy as Core, IsNewProxy}
use Rattle.fdb_roles.specs.Lists.{Each}
use Rattle.fdb_roles.proofs.Exports.{each-push, new-log, new-shard, new_proxies_have_no_entry, none-unlearnt}
use Rattle.fdb_core.specs.declared.roles.log.LogRole.{LogRole}
use Rattle.fdb_core.specs.declared.roles.shard.ShardRole.{ShardRole}
use Rattle.fdb_core.specs.declared.roles.commit_proxy.CommitProxyRole.{CommitProxyRole}
use Rattle.fdb_core.specs.declared.roles.resolver.ResolverRole.{ResolverRole}
use Rattle.fdb_machine.specs.machine.Worlds.{idle_proxy}
use Rattle.fdb_core.specs.refinement.Cluster.{CommitProxiesRefine, SequencerRefines, GrvProxiesRefine, HasSeenNone}
use Rattle.fdb_core.specs.refinement.Cluster.{sessions_of}
use Rattle.fdb_core.specs.refinement.commit_proxy.Ties.{CommitProxyRefines, IsNewCommitProxy, StageRefines, known_to}
use Rattle.fdb_core.specs.refinement.commit_proxy.Ties.{seen_as}
use Rattle.fdb_core.specs.refinement.log.Ties.{LogRefines, ShardRefines, TagRefines, LogsRefine, logs_taken}
use Rattle.fdb_core.specs.refinement.log.Ties.{progress_of}
use Rattle.fdb_core.specs.refinement.resolver.Resolving.{ResolversRefine, taken_by}
use Rattle.fdb_core.specs.refinement.Starts.{AreNewLogs, AreNewShards, IsNewResolver}

-- what is made of items of which the same is made is so many of it
pub all-same : {A B : Type 0} (f : A → B) (made : B) (n : ℕ) (xs : List A) → length xs ≡ n
    → ((i : ℕ) (x : A) → slice_get xs i ≡ Some x → f x ≡ made) → map f xs ≡ replicate n made
all-same f made n [] count each = ap (λ (m : ℕ). replicate m made) count
all-same f made zero (x ∷ xs) count each = absurd (omega (arith, count))
all-same f made (suc n) (x ∷ xs) count each =
    ap₂ (λ first others. first ∷ others) (each 0 x refl)
    (all-same f made n xs (omega (arith, count)) (λ i other at. each (suc i) other at))

pub no-logs : (count tags : ℕ) → AreNewLogs 0 count tags []
no-logs count tags = record { as_many = refl; each = λ i role there. cc }

pub one-log : (n count tags : ℕ) (logs : List LogRole) (role : LogRole) → AreNewLogs n count tags logs
    → IsNewLog n count tags role.state → role.taken ≡ 0 → AreNewLogs (n + 1) count tags (logs ++ role ∷ [])
one-log n count tags logs role before new taken = record {
  as_many = omega (arith, length-append logs (role ∷ []), before.as_many);
  each = each-push (λ (i : ℕ) (it : LogRole). IsNewLog i count tags it.state × (it.taken ≡ 0)) logs role before.each
      (subst (λ (i : ℕ). IsNewLog i count tags role.state × (role.taken ≡ 0)) (sym before.as_many) (new, taken));
}

pub no-shards : (splits : List Point) → AreNewShards 0 splits []
no-shards splits = record { as_many = refl; each = λ i role there. cc }

pub one-shard : (n : ℕ) (splits : List Point) (shards : List ShardRole) (role : ShardRole)
    → AreNewShards n splits shards → IsNewShard n (piece splits n) role.state → role.applied ≡ 0 → role.popped ≡ 0
    → AreNewShards (n + 1) splits (shards ++ role ∷ [])
one-shard n splits shards role before new applied popped = record {
  as_many = omega (arith, length-append shards (role ∷ []), before.as_many);
  each = each-push
      (λ (i : ℕ) (it : ShardRole). IsNewShard i (piece splits i) it.state × (it.applied ≡ 0) × (it.popped ≡ 0))
      shards role before.each
      (subst (λ (i : ℕ). IsNewShard i (piece splits i) role.state × (role.applied ≡ 0) × (role.popped ≡ 0))
      (sym before.as_many) (new, applied, popped));
}

-- logs and shards that took nothing are tied to no entries
module _ (config : Config) (logs : List LogRole) (shards : List ShardRole)
    (new_logs : AreNewLogs config.logs config.logs (suc (length config.shard_splits)) logs)
    (new_shards : AreNewShards (suc (length config.shard_splits)) config.shard_splits shards) where
  log-start : Each (LogRefines config []) logs
  log-start i role there =
      let new = new_logs.each i role there in
      let at = new-log config i role.state new.0 in
      record {
        number = at.number;
        logs = at.logs;
        tags = at.tags;
        works = at.works;
        within = omega (arith, new.1);
        last = at.last ∙ rw new.1 refl;
        kept = λ tag keeps_it. at.kept tag keeps_it ∙ rw new.1 refl;
      }

  shard-start : Each (ShardRefines config []) shards
  shard-start i role there =
      let new = new_shards.each i role there in
      let at = new-shard config i role.state new.0 in
      record {
        tag = at.tag;
        range = at.range;
        works = at.works;
        within = omega (arith, new.1);
        version = at.version ∙ rw new.1 refl;
        serving = at.serving;
        popped = omega (arith, new.2);
        serves = λ v x from until inside. at.serves v x from until inside ∙ rw new.1 refl;
      }

  tag-start : Each (TagRefines logs) shards
  tag-start i role there log at =
      let new = new_shards.each i role there in
      let its = new_logs.each (log_of (length logs) i) log at in
      (omega (arith, new.1), its.0.popped i ∙ sym new.2)

  pub logs-start : LogsRefine config [] logs shards
  logs-start = record {
    log_count = new_logs.as_many;
    shard_count = new_shards.as_many;
    each_log = log-start;
    each_shard = shard-start;
    each_tag = tag-start;
  }

  -- the machine has as many that took nothing
  pub taken-start : logs_taken logs ≡ replicate config.logs 0
  taken-start = all-same (λ (role : LogRole). role.taken) 0 config.logs logs new_logs.as_many
      (λ i role there. (new_logs.each i role there).1)

  pub progress-start : map progress_of shards
      ≡ replicate (suc (length config.shard_splits)) (record { applied = 0; floor = 0; popped = 0 })
  progress-start = all-same progress_of (record { applied = 0; floor = 0; popped = 0 })
      (suc (length config.shard_splits)) shards new_shards.as_many
      (λ i role there. let new = new_shards.each i role there in
      λ j. record { applied = new.1 j; floor = new.0.floor j; popped = new.2 j })

-- a sequencer before its first ticket
pub sequencer-start : (config : Config) (proxies resolvers : ℕ) → proxies ≡ config.proxies
    → resolvers ≡ suc (length config.resolver_splits) → SequencerRefines config [] (fresh proxies resolvers 0)
sequencer-start config proxies resolvers all_proxies all_resolvers = record {
  proxies = all_proxies;
  accepted = refl;
  last = refl;
  committed = omega arith;
  resolvers = all_resolvers;
  count = length-replicate proxies [] ∙ all_proxies;
  targets = tt;
  made = refl;
  horizon = refl;
  window = omega arith;
}

-- a commit proxy of a new state, at which nobody waits
pub commit_proxy-start : (index : ℕ) (config : Config) (role : CommitProxyRole)
    → IsNewProxy index config role.state.proxy
    → role ≡ record { state = role.state; waiting = []; in_flight = []; entry = 0; is_reported = false }
    → IsNewCommitProxy config role
commit_proxy-start index config role new is =
    subst (IsNewCommitProxy config) (sym is) (record {
      machine = rw new.rest refl;
      refines = record {
        front = [];
        behind = [];
        whole = refl;
        state = new_proxies_have_no_entry config index role.state.proxy new;
        unlearnt = refl;
        waiting = ap (λ (p : Core). p.waiting) new.rest;
        in_flight = ap (λ (p : Core). p.batch) new.rest;
        reads = tt;
        stage = subst (λ (p : Core). StageRefines false 0 p.stage) (sym new.rest) refl;
      };
    })

-- commit proxies without batches
module _ (config : Config) (roles : List CommitProxyRole) (count : length roles ≡ config.proxies)
    (each : Each (λ (_ : ℕ). IsNewCommitProxy config) roles) where
  pub commit_proxies-start : (proxies resolvers : ℕ)
      → CommitProxiesRefine config [] (known_to (fresh proxies resolvers 0)) roles
  commit_proxies-start proxies resolvers = record {
    count = count;
    each = λ i role there.
        subst (λ (unlearnt : List Dated).
        CommitProxyRefines config [] (record { committed = 0; unlearnt = unlearnt }) role)
        (sym (none-unlearnt proxies i)) (each i role there).refines;
  }

  pub seen-start : map seen_as roles ≡ replicate config.proxies idle_proxy
  seen-start = all-same seen_as idle_proxy config.proxies roles count (λ i role there. (each i role there).machine)

-- resolvers that took nothing
module _ (splits : List Point) (roles : List ResolverRole) (count : length roles ≡ suc (length splits))
    (each : Each IsNewResolver roles) where
  pub resolvers-start : ResolversRefine splits [] roles
  resolvers-start = record {
    count = omega (arith, count);
    each = λ i role there. (each i role there).0 splits;
  }

  pub taken_by-start : taken_by roles ≡ replicate (suc (length splits)) 0
  taken_by-start = all-same (λ (role : ResolverRole). role.taken) 0 (suc (length splits)) roles count
      (λ i role there. (each i role there).1)

-- read-version proxies at which nobody asks
pub asked-start : (n : ℕ) → map sessions_of (replicate n []) ≡ replicate n []
asked-start zero = refl
asked-start (suc n) = ap (λ (others : List (List ℕ)). [] ∷ others) (asked-start n)

pub grv_proxies-start : (config : Config) (asked : List (List Asker)) → asked ≡ replicate config.proxies []
    → GrvProxiesRefine config asked
grv_proxies-start config asked is = rw is (record {
  count = length-replicate config.proxies [];
  each = λ i there at. nobody config.proxies i there at;
})
  where
    nobody : (n i : ℕ) (there : List Asker) → slice_get (replicate n []) i ≡ Some there
        → AllByRecursion HasSeenNone there
    nobody zero i there at = cc
    nobody (suc n) zero there at = let same : [] ≡ there = cc in subst (AllByRecursion HasSeenNone) same tt
    nobody (suc n) (suc i) there at = nobody n i there at
