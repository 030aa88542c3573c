-- Shards that are lent to a reader, one after another.
use Rattle.std.proofs.Common.{◌≡◌, refl, ℕ, Bool, true, false, ◌&&◌, not, List, [], ◌∷◌, map, Option, Some, None, Bor}
use Rattle.std.specs.Prelude.{⊤, if◌then◌else◌}
use Rattle.std.specs.List.{filter, list_any}
use Rattle.std.specs.Option.{option_or}
use Rattle.fdb_keys.specs.Points.{Point, point_lt}
use Rattle.fdb_keys.specs.Ranges.{Range, in_range, is_within}
use Rattle.fdb_keys.specs.declared.refusal.Refusal.{Refusal}
use Rattle.fdb_keys.specs.declared.refusal.Refusal.TheVariants.{KeyOutsideLegalRange, Unknown}
use Rattle.fdb_keys.proofs.Exports.{within-points}
use Rattle.fdb_mutations.specs.Maps.{Map}
use Rattle.fdb_mutations.specs.Pairs.{pairs_in}
use Rattle.fdb_txn.specs.declared.entry.Entry.{Entry}
use Rattle.fdb_storage.specs.Shards.{read_fault}
use Rattle.fdb_client.specs.Merging.{IsPartOf}
use Rattle.fdb_sections.specs.ShardsAtFronts.{ShardAtFront}

-- the front is the reader's; the range is what the shards hold
pub record LentShards : Type 0 where
  pub version : ℕ
  pub front : List Entry
  pub range : Range

-- what is lent
abbrev pub lent_shards : List (Bor ShardAtFront) → List ShardAtFront
lent_shards shards = map (λ (at : Bor ShardAtFront). at.now) shards

-- one of the shards holds the point
abbrev pub is_held : List ShardAtFront → Point → Bool
is_held shards x = list_any (λ (at : ShardAtFront). in_range at.shard.range x) shards

-- every point of the range is held by one of the shards
abbrev pub HoldAll : Range → List ShardAtFront → Type 0
HoldAll range shards = (x : Point) → in_range range x ≡ true → is_held shards x ≡ true

-- Each of the shards serves the version, and those behind it hold nothing that comes before its end.
abbrev pub AreInARow : ℕ → List ShardAtFront → Type 0
AreInARow version [] = ⊤
AreInARow version (at ∷ others) =
    (read_fault at.shard true version ≡ None)
    × ((x : Point) → is_held others x ≡ true → point_lt x at.shard.range.end ≡ false)
    × AreInARow version others

-- of the pairs of a range those that a shard holds, and those that one of some shards holds
abbrev pub pairs_at : Map → Range → Bool → ShardAtFront → List (Point × List ℕ)
pairs_at run range is_reverse at = filter (λ pair. in_range at.shard.range pair.0) (pairs_in run range is_reverse)

abbrev pub pairs_held : Map → Range → Bool → List ShardAtFront → List (Point × List ℕ)
pairs_held run range is_reverse shards = filter (λ pair. is_held shards pair.0) (pairs_in run range is_reverse)

-- why a shard isn't lent as the next one from a point on: it doesn't begin there, or has no key, or refuses the version
abbrev pub next_fault : ℕ → Point → ShardAtFront → Option Refusal
next_fault version from at =
    if in_range at.shard.range from && not (point_lt at.shard.range.begin from)
    then read_fault at.shard true version else Some Unknown

-- and why some aren't, each from the end of the one before it on, to hold what comes before another point
abbrev pub row_fault : (version : ℕ) (until from : Point) → List ShardAtFront → Option Refusal
row_fault version until from [] = if point_lt from until then Some KeyOutsideLegalRange else None
row_fault version until from (at ∷ others) =
    option_or (next_fault version from at) (row_fault version until at.shard.range.end others)

-- where the first one begins, if it holds the begin of the range, and else that
abbrev pub row_begin : Range → List ShardAtFront → Point
row_begin range [] = range.begin
row_begin range (at ∷ others) = if in_range at.shard.range range.begin then at.shard.range.begin else range.begin

-- why shards aren't lent for a range, which they are to hold together
abbrev pub lending_fault : ℕ → Range → List ShardAtFront → Option Refusal
lending_fault version range shards = row_fault version range.end (row_begin range shards) shards

-- why a key or a range is not read: it isn't what the shards were lent for
abbrev pub key_fault : LentShards → Point → Option Refusal
key_fault it x = if in_range it.range x then None else Some KeyOutsideLegalRange

abbrev pub range_fault : LentShards → Range → Option Refusal
range_fault it range = if is_within range it.range then None else Some KeyOutsideLegalRange

-- a range that isn't refused lies within what they were lent for
pub lent_within : (it : LentShards) (range : Range) → range_fault it range ≡ None → is_within range it.range ≡ true
lent_within it range none = by_test (is_within range it.range) none
  where
    by_test : (test : Bool) → (if test then None else Some KeyOutsideLegalRange) ≡ None → test ≡ true
    by_test true is = refl
    by_test false is = cc

-- a part of a range that isn't refused isn't refused
pub part_lent : (it : LentShards) (part range : Range) → IsPartOf part range → range_fault it range ≡ None
    → range_fault it part ≡ None
part_lent it part range inside none =
    let within : is_within part it.range ≡ true =
    (within-points part it.range).1
    (λ x there. (within-points range it.range).0 (lent_within it range none) x (inside x there)) in
    rw within refl
