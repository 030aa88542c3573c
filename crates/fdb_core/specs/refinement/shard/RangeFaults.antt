-- The points from which on a shard holds some of a range stand for all points of the range, whatever the splits. So a
-- part of a range that isn't refused isn't refused.
use Rattle.std.proofs.Common.{◌≡◌, ◌∙◌, sym, ap, refl, ℕ, Bool, true, false, List, map, Option, Some, None, slice_get}
use Rattle.std.proofs.Common.{if◌then◌else◌}
use Rattle.std.specs.List.{list_any}
use Rattle.std.proofs.lemmas.Bool.{both_ways, cond-false, false_from_ne_true}
use Rattle.fdb_keys.specs.Points.{Point}
use Rattle.fdb_keys.specs.Ranges.{Range}
use Rattle.fdb_keys.specs.declared.refusal.Refusal.{Refusal}
use Rattle.fdb_keys.specs.declared.refusal.Refusal.TheVariants.{Failed}
use Rattle.fdb_txn.specs.rules.Owners.{first_owner}
use Rattle.fdb_client.specs.Merging.{IsPartOf}
use Rattle.fdb_machine.specs.machine.ClientSteps.{fault_among, shard_begins}
use Rattle.fdb_machine.specs.machine.Machine.{is_set}
use Rattle.fdb_machine.specs.machine.RoleSteps.{shard_fault}
use Rattle.fdb_machine.proofs.Exports.{begin-point, point-begin, of-range, served-range}
use Rattle.fdb_core.specs.declared.roles.shard.ShardRole.{ShardRole}
use Rattle.fdb_core.specs.refinement.log.Ties.{progress_of}
use Rattle.fdb_core.specs.refinement.shard.Reads.{ShardReads, has_failed_at, point_fault, range_fault}

-- the shard that holds two points has failed or works
pub failed_by_one : (reads : ShardReads) (x y : Point)
    → first_owner reads.config.shard_splits x ≡ first_owner reads.config.shard_splits y
    → has_failed_at reads x ≡ has_failed_at reads y
failed_by_one reads x y same = ap (is_set (map (λ (role : ShardRole). role.state.is_failed) reads.shards)) same

-- and it serves both or neither
pub held_by_one : (reads : ShardReads) (x y : Point)
    → first_owner reads.config.shard_splits x ≡ first_owner reads.config.shard_splits y
    → point_fault reads x ≡ point_fault reads y
held_by_one reads x y same =
    ap (λ (n : ℕ). shard_fault reads.book reads.version (slice_get (map progress_of reads.shards) n)) same

-- what isn't refused has no shard that failed, and none that doesn't serve it
pub unrefused : (failed : Bool) (fault : Option Refusal) → (if failed then Some Failed else fault) ≡ None
    → (failed ≡ false) × (fault ≡ None)
unrefused true fault none = cc
unrefused false fault none = (refl, none)

module _ (reads : ShardReads) (part range : Range) (inside : IsPartOf part range) where
  abbrev begins_in : Range → List Point
  begins_in = shard_begins reads.config.shard_splits

  part_works : list_any (has_failed_at reads) (begins_in range) ≡ false
      → list_any (has_failed_at reads) (begins_in part) ≡ false
  part_works works = false_from_ne_true _ (λ failed.
      let point = begin-point reads.config.shard_splits part (has_failed_at reads) failed in
      both_ways _ works
      (point-begin reads.config.shard_splits range (has_failed_at reads) (failed_by_one reads) point.0
      (inside point.0 point.1) point.2))

  no_fault : fault_among (point_fault reads) (begins_in range) ≡ None
      → fault_among (point_fault reads) (begins_in part) ≡ None
  no_fault served = by_fault (fault_among (point_fault reads) (begins_in part)) refl
    where
      by_fault : (fault : Option Refusal) → fault_among (point_fault reads) (begins_in part) ≡ fault → fault ≡ None
      by_fault None is = refl
      by_fault (Some why) is =
          let point = of-range reads.config.shard_splits part (point_fault reads) (held_by_one reads) why is in
          sym point.2
          ∙ served-range reads.config.shard_splits range (point_fault reads) (held_by_one reads) point.0
          (inside point.0 point.1) served

-- a part of a range that isn't refused isn't refused
pub part_served : (reads : ShardReads) (part range : Range) → IsPartOf part range → range_fault reads range ≡ None
    → range_fault reads part ≡ None
part_served reads part range inside served =
    let whole = unrefused _ _ served in
    cond-false _ _ _ (part_works reads part range inside whole.0) ∙ no_fault reads part range inside whole.1
