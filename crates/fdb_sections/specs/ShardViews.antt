-- A shard, read at a version by who has seen a front of the book that needn't be the shard's.
use Rattle.std.proofs.Common.{◌≡◌, ◌∙◌, refl, sym, ap, ◌≤◌, ℕ, Bool, true, false, not, List, Option, Some, None}
use Rattle.std.specs.Prelude.{nat_lt, if◌then◌else◌}
use Rattle.std.proofs.lemmas.Bool.{ltb-false}
use Rattle.fdb_keys.specs.Points.{Point}
use Rattle.fdb_keys.specs.Ranges.{Range, is_within}
use Rattle.fdb_keys.specs.declared.refusal.Refusal.{Refusal}
use Rattle.fdb_keys.specs.declared.refusal.Refusal.TheVariants.{Failed, KeyOutsideLegalRange}
use Rattle.fdb_keys.specs.declared.refusal.Refusal.TheVariants.{TransactionTooOld, FutureVersion}
use Rattle.fdb_keys.proofs.Exports.{within-points}
use Rattle.fdb_mutations.specs.Maps.{Map}
use Rattle.fdb_txn.specs.declared.entry.Entry.{Entry}
use Rattle.fdb_txn.specs.book.Book.{seen_of, last_version}
use Rattle.fdb_txn.specs.rules.SerialMap.{serial_map_at}
use Rattle.fdb_storage.specs.Shards as shards
use Rattle.fdb_storage.specs.Shards.{Shard, read_fault}
use Rattle.fdb_proxy.specs.declared.config.Config.{Config}
use Rattle.fdb_client.specs.Merging.{IsPartOf}
use Rattle.fdb_sections.specs.ShardsAtFronts.{ShardAtFront}

-- the front is the reader's
pub record ShardView : Type 0 where
  pub version : ℕ
  pub front : List Entry
  pub at : ShardAtFront

-- the serial map of a front at a version
abbrev pub run_of : Config → ℕ → List Entry → Map
run_of config version front = serial_map_at config.resolver_splits version (seen_of front).places

-- what is read: the serial map of the reader's front
abbrev pub run_map : Config → ShardView → Map
run_map config view = run_of config view.version view.front

-- At a version that the one front reaches, its serial map is that of the other one.
abbrev pub HasTheRunOf : Config → ℕ → (own other : List Entry) → Type 0
HasTheRunOf config version own other =
    version ≤ last_version own → run_of config version own ≡ run_of config version other

-- why a key or a range is not read
abbrev pub key_fault : ShardView → Point → Option Refusal
key_fault view key = shards.key_fault view.at.shard key view.version

abbrev pub range_fault : ShardView → Range → Option Refusal
range_fault view range = shards.range_fault view.at.shard range view.version

-- Who isn't refused asks for what a shard holds that works, at a version that it serves.
pub served : (shard : Shard) (is_held : Bool) (version : ℕ) → read_fault shard is_held version ≡ None
    → (is_held ≡ true) × (shard.is_failed ≡ false) × (shard.floor ≤ version) × (version ≤ shard.version)
served shard is_held version none =
    by_tests shard.is_failed is_held (nat_lt version shard.floor) (nat_lt shard.version version) refl refl refl none
  where
    by_tests : (failed held old future : Bool) → shard.is_failed ≡ failed → nat_lt version shard.floor ≡ old
        → nat_lt shard.version version ≡ future
        → (if failed then Some Failed
        else (if not held then Some KeyOutsideLegalRange
        else (if old then Some TransactionTooOld else (if future then Some FutureVersion else None)))) ≡ None
        → (held ≡ true) × (shard.is_failed ≡ false) × (shard.floor ≤ version) × (version ≤ shard.version)
    by_tests true held old future is is_old is_future none = cc
    by_tests false false old future is is_old is_future none = cc
    by_tests false true true future is is_old is_future none = cc
    by_tests false true false true is is_old is_future none = cc
    by_tests false true false false is is_old is_future none =
        (refl, is, ltb-false version shard.floor is_old, ltb-false shard.version version is_future)

-- a part of a range that isn't refused isn't refused
pub part_served : (view : ShardView) (part range : Range) → IsPartOf part range → range_fault view range ≡ None
    → range_fault view part ≡ None
part_served view part range inside none =
    let shard = view.at.shard in
    let whole = (served shard (is_within range shard.range) view.version none).0 in
    let within : is_within part shard.range ≡ true =
    (within-points part shard.range).1 (λ x there. (within-points range shard.range).0 whole x (inside x there)) in
    ap (λ (held : Bool). read_fault shard held view.version) (within ∙ sym whole) ∙ none
