-- A check of a sound world finds no difference.
use Rattle.std.proofs.Common.{◌≡◌, ◌∙◌, sym, ap, subst, length, take, ℕ, suc, ◌≤◌, le_refl, arith, true}
use Rattle.std.proofs.Common.{List, Some, ⊎_elim, Result, Ok, Err}
use Rattle.std.proofs.Common.{MatchResult, slice_get}
use Rattle.std.specs.FinMap.{get}
use Rattle.fdb_keys.specs.Points.{Point}
use Rattle.fdb_keys.specs.Ranges.{Range, in_range}
use Rattle.fdb_mutations.specs.Maps.{Map}
use Rattle.fdb_txn.specs.Limits.{shard_limit}
use Rattle.fdb_txn.specs.book.Book.{last_version}
use Rattle.fdb_core.specs.declared.cluster.Cluster.{Cluster}
use Rattle.fdb_core.specs.declared.roles.shard.ShardRole.{ShardRole}
use Rattle.fdb_check.specs.declared.fault.CheckFault.{CheckFault}
use Rattle.fdb_check.specs.declared.fault.CheckFault.TheVariants.{NoMemory}
use Rattle.fdb_core.specs.check.Checking.{Finds}
use Rattle.fdb_check.specs.Spots.{IsFirstOther}
use Rattle.fdb_core.specs.check.Holding.{HoldsTheRun, ShardDiffers}
use Rattle.fdb_roles.specs.Spots.{IsSerialized}
use Rattle.fdb_core.specs.refinement.Cluster.{machine_of, Refines}
use Rattle.fdb_core.specs.refinement.Restoring.{Tied, with_roles}
use Rattle.fdb_machine.specs.invariant.Invariant.{Invariant, IsSerializedIn}
use Rattle.fdb_roles.proofs.Exports.{all-at, entries-rising, serial-front}
use Rattle.fdb_core.proofs.refinement.RestoringLemmas.{restores-at, restores-count}

module _ (k : Cluster) (tied : Tied k) where
  abbrev splits : List Point
  splits = k.config.resolver_splits

  refines : Refines (with_roles k tied.roles)
  refines = tied.refines

  -- each of its shards has the serial map, unless it has failed
  shard-holds : (i : ℕ) (role : ShardRole) → slice_get k.shards.items i ≡ Some role
      → HoldsTheRun splits k.book.items role
  shard-holds i role there works x inside =
      let its = refines.logs.each_shard i role (restores-at _ _ k.shards.items tied.roles.shards.items tied.shards i
      role
      there works) in
      let reached : role.state.version ≤ last_version (take role.applied k.book.items) =
      subst (λ (v : ℕ). role.state.version ≤ v) its.version (le_refl role.state.version) in
      its.serves role.state.version x its.serving (le_refl role.state.version)
      (subst (λ (range : Range). in_range range x ≡ true) its.range inside)
      ∙ sym (ap (λ (map : Map). get map x)
      (serial-front splits k.book.items (entries-rising (suc (length splits)) k.book.items refines.book.entries)
      role.applied role.state.version reached))

  -- there are few
  pub few-shards : length k.shards.items ≤ shard_limit
  few-shards =
      let count = restores-count _ _ k.shards.items tied.roles.shards.items tied.shards in
      omega (arith, count, refines.logs.shard_count, refines.legal.few_shards)

  -- so whatever is found is the number of acknowledged transactions, or out of memory
  pub sound-finds : Invariant (machine_of k) → (result : Result ℕ CheckFault)
      → Finds result splits k.book.items k.acknowledged.items k.shards.items
      → MatchResult result (λ count. count ≡ length k.acknowledged.items) (λ fault. fault ≡ NoMemory)
  sound-finds sound (Ok count) finds = finds.0
  sound-finds sound (Err fault) finds = ⊎_elim
      (⊎_elim (λ lacks. lacks) (λ (other : IsFirstOther k.book.items (IsSerialized splits k.book.items)
      k.acknowledged.items fault).
      absurd (other.4 (all-at (IsSerializedIn (machine_of k)) k.acknowledged.items other.0 other.1 sound.acknowledged
      other.2))))
      (⊎_elim (λ lacks. lacks) (λ (differs : ShardDiffers (HoldsTheRun splits k.book.items) k.shards.items fault).
      absurd (differs.4 (shard-holds differs.0 differs.1 differs.2))))
      finds
