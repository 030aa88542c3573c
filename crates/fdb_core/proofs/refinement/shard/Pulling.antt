-- A shard and its log, as a pull and a pop find them: with the cluster as it is, and as it was before roles failed.
use Rattle.std.proofs.Common.{◌≡◌, ◌∙◌, sym, ap, ap₂, refl, subst, ℕ, ◌<◌, ◌%◌, Bool, true, false, length, map, get_or}
use Rattle.std.proofs.Common.{Some, slice_get, arith}
use Rattle.std.specs.Prelude.{◌||◌}
use Rattle.std.proofs.Math.Nat.{mod-lt}
use Rattle.std.proofs.lemmas.List.{length-map}
use Rattle.fdb_log.specs.Messages.{log_of}
use Rattle.fdb_core.specs.declared.cluster.Cluster.{Cluster}
use Rattle.fdb_core.specs.declared.roles.log.LogRole.{LogRole}
use Rattle.fdb_core.specs.declared.roles.shard.ShardRole.{ShardRole}
use Rattle.fdb_machine.specs.machine.Failures.{pulls_failed}
use Rattle.fdb_machine.specs.machine.Machine.{Machine, is_set}
use Rattle.fdb_machine.specs.machine.Roles.{ShardProgress}
use Rattle.fdb_machine.specs.machine.RoleSteps.{pulls, pops}
use Rattle.fdb_core.specs.refinement.Cluster.{machine_of}
use Rattle.fdb_core.specs.refinement.Restoring.{Tied, failures_of, log_failed, shard_failed}
use Rattle.fdb_core.specs.refinement.log.Ties.{progress_of, logs_taken}
use Rattle.fdb_roles.proofs.Exports.{within-item, map-at, one-item, read-there}
use Rattle.fdb_core.proofs.refinement.RestoringLemmas.{restores-at, restores-count, flag-at}
use Rattle.fdb_core.proofs.refinement.StepLemmas.{NamesWhatIsThere}

-- a shard that is there, and for a pull its log, too
pub pulls-there : (m : Machine) (s limit : ℕ) (progress : ShardProgress) (has : ℕ)
    → slice_get m.shards s ≡ Some progress → slice_get m.logs (log_of (length m.logs) s) ≡ Some has
    → NamesWhatIsThere (pulls m s limit)
unfolding pulls
pulls-there m s limit progress has there at = record { refused = rw (there, at) refl }

pub pops-there : (m : Machine) (s : ℕ) (progress : ShardProgress) → slice_get m.shards s ≡ Some progress
    → NamesWhatIsThere (pops m s)
unfolding pops
pops-there m s progress there = record { refused = rw there refl }

module _ (k : Cluster) (tied : Tied k) (s : ℕ) where
  log-count : length k.logs.items ≡ length tied.roles.logs.items
  log-count = restores-count _ _ k.logs.items tied.roles.logs.items tied.logs

  -- the shard's log is there
  pub log-within : (n : ℕ) → n ≡ length k.logs.items → s % n < length k.logs.items
  log-within n is =
      let some = tied.refines.legal.some_log in
      let count = tied.refines.logs.log_count in
      subst (λ (all : ℕ). s % n < all) is (mod-lt s (omega (arith, is, some, count, log-count)))

  log-has : slice_get (logs_taken k.logs.items) (log_of (length (logs_taken k.logs.items)) s)
      ≡ Some (within-item k.logs.items (log_of (length k.logs.items) s) (log-within (length k.logs.items) refl)).0.taken
  log-has =
      let log = within-item k.logs.items (log_of (length k.logs.items) s) (log-within (length k.logs.items) refl) in
      ap (λ (n : ℕ). slice_get (logs_taken k.logs.items) (log_of n s))
      (length-map k.logs.items (λ (it : LogRole). it.taken))
      ∙ map-at (λ (it : LogRole). it.taken) k.logs.items (log_of (length k.logs.items) s) log.0 log.1

  module _ (role : ShardRole) (at : slice_get k.shards.items s ≡ Some role) where
    -- so a pull and a pop of the shard name what is there
    pub its-pull : (limit : ℕ) → NamesWhatIsThere (pulls (machine_of k) s limit)
    its-pull limit = pulls-there (machine_of k) s limit (progress_of role)
        (within-item k.logs.items (log_of (length k.logs.items) s) (log-within (length k.logs.items) refl)).0.taken
        (map-at progress_of k.shards.items s role at) log-has

    pub its-pop : NamesWhatIsThere (pops (machine_of k) s)
    its-pop = pops-there (machine_of k) s (progress_of role) (map-at progress_of k.shards.items s role at)

    -- they use a role that has failed where the shard has,
    pub shard-used : shard_failed role ≡ true → pulls_failed (machine_of k) (failures_of k) s ≡ true
    shard-used failed =
        ap (λ (flag : Bool). flag || is_set (map log_failed k.logs.items) (log_of (length (logs_taken k.logs.items)) s))
        (flag-at shard_failed k.shards.items s role at ∙ failed)

  module _ (n : ℕ) (count : n ≡ length k.logs.items) (log : LogRole)
      (at : slice_get k.logs.items (s % n) ≡ Some log) where
    its-flag : is_set (map log_failed k.logs.items) (log_of (length (logs_taken k.logs.items)) s) ≡ log_failed log
    its-flag =
        ap (λ (all : ℕ). is_set (map log_failed k.logs.items) (s % all))
        (length-map k.logs.items (λ (it : LogRole). it.taken) ∙ sym count)
        ∙ flag-at log_failed k.logs.items (s % n) log at

    -- and where its log has
    pub log-used : log_failed log ≡ true → pulls_failed (machine_of k) (failures_of k) s ≡ true
    log-used failed =
        ap (λ (flag : Bool). is_set (map shard_failed k.shards.items) s || flag) (its-flag ∙ failed)
        ∙ either (is_set (map shard_failed k.shards.items) s)
      where
        either : (test : Bool) → (test || true) ≡ true
        either true = refl
        either false = refl

-- The shard and its log, both of which work; n is the number of logs.
pub record Pulling (k : Cluster) (tied : Tied k) (s n : ℕ) (role : ShardRole) (log : LogRole) : Type 0 where
  pub here : slice_get k.shards.items s ≡ Some role
  pub works : shard_failed role ≡ false
  pub was : slice_get tied.roles.shards.items s ≡ Some role
  pub log_here : slice_get k.logs.items (s % n) ≡ Some log
  pub log_works : log_failed log ≡ false
  pub log_was : slice_get tied.roles.logs.items (s % n) ≡ Some log
  pub count : n ≡ length tied.roles.logs.items
  pub unused : pulls_failed (machine_of k) (failures_of k) s ≡ false

-- the log was there before roles failed, too
pub its-log : (k : Cluster) (tied : Tied k) (s n : ℕ) (role : ShardRole) (log : LogRole) → Pulling k tied s n role log
    → slice_get tied.roles.logs.items (log_of (length tied.roles.logs.items) s) ≡ Some log
its-log k tied s n role log its =
    ap (λ (all : ℕ). slice_get tied.roles.logs.items (s % all)) (sym its.count) ∙ its.log_was

-- as they are found, once both were tested
pub find-pulling : (k : Cluster) (tied : Tied k) (s n : ℕ) (tested role : ShardRole) (tested_log log : LogRole)
    → s < length k.shards.items → n ≡ length k.logs.items → tested ≡ get_or k.shards.items s tested
    → tested_log ≡ get_or k.logs.items (s % n) tested_log → role ≡ get_or k.shards.items s role
    → log ≡ get_or k.logs.items (s % n) log → shard_failed tested ≡ false → log_failed tested_log ≡ false
    → Pulling k tied s n role log
find-pulling k tied s n tested role tested_log log inside count tests tests_log is is_log works log_works =
    let within = log-within k tied s n count in
    let at = read-there k.shards.items s role inside is in
    let log_at = read-there k.logs.items (s % n) log within is_log in
    let working : shard_failed role ≡ false =
    ap shard_failed (sym (one-item k.shards.items s tested role inside tests at)) ∙ works in
    let log_working : log_failed log ≡ false =
    ap log_failed (sym (one-item k.logs.items (s % n) tested_log log within tests_log log_at)) ∙ log_works in
    record {
      here = at;
      works = working;
      was = restores-at _ _ k.shards.items tied.roles.shards.items tied.shards s role at working;
      log_here = log_at;
      log_works = log_working;
      log_was = restores-at _ _ k.logs.items tied.roles.logs.items tied.logs (s % n) log log_at log_working;
      count = count ∙ log-count k tied s;
      unused = ap₂ (λ (shard of_log : Bool). shard || of_log)
          (flag-at shard_failed k.shards.items s role at ∙ working)
          (its-flag k tied s n count log log_at ∙ log_working);
    }
