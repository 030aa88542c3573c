-- Which shards a mutation concerns.
use Rattle.std.specs.Prelude.{◌≡◌, ◌↔◌, ◌<◌, ℕ, suc, ◌==◌, true, List, map, filter, length}
use Rattle.std.specs.List.{range_with_len, list_any}
use Rattle.fdb_keys.specs.Points.{Point}
use Rattle.fdb_keys.specs.Ranges.{Range, in_range}
use Rattle.fdb_mutations.specs.declared.mutation.Mutation.{Mutation}
use Rattle.fdb_mutations.specs.Mutations.{names}
use Rattle.fdb_txn.specs.rules.Messages.{meets_range}
use Rattle.fdb_txn.specs.rules.Splits.{piece}
use Rattle.fdb_txn.specs.Limits.{shard_limit}

-- the numbers of the shards between the splits
abbrev pub shards_of : List Point → List ℕ
shards_of splits = range_with_len 0 (suc (length splits))

-- the tags of a mutation: those of the shards whose range it meets
abbrev pub tags_of : List Point → Mutation → List ℕ
tags_of splits mutation = filter (λ (tag : ℕ). meets_range (piece splits tag) mutation) (shards_of splits)

-- what a shard map keeps: for each shard its range
pub record IsShardMap (splits : List Point) (held : List Range) : Type 0 where
  pub few : length splits < shard_limit
  pub ranges : held ≡ map (piece splits) (shards_of splits)

-- a mutation has the tag of a shard exactly where it names a point of the shard's range
abbrev pub TagsAreTheShards : Type 0
TagsAreTheShards =
    (splits : List Point) (mutation : Mutation) (tag : ℕ) → tag < suc (length splits)
    → (list_any (λ (other : ℕ). other == tag) (tags_of splits mutation) ≡ true)
    ↔ ((x : Point) × (in_range (piece splits tag) x ≡ true) × (names mutation x ≡ true))
