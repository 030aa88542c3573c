-- Pages of keys with their versions.
use Rattle.std.specs.Prelude.{ℕ, ◌+◌, Bool, nat_eq, List, [], ◌∷◌, ◌++◌, map, take, reverse, Option, Some, None}
use Rattle.std.specs.Prelude.{is_some}
use Rattle.std.specs.Prelude.{if◌then◌else◌}
use Rattle.std.proofs.Common.{Bor}
use Rattle.std.specs.BTreeMap.Range.{entries_between}
use Rattle.std.specs.Cmp.Lexicographic.{slice_cmp}
use Rattle.std.specs.Ordering.{nat_cmp}
use Rattle.std.specs.declared.ops.Bound.TheVariants.{Included, Excluded}
use Rattle.fdb_keys.specs.Points.{Point}
use Rattle.fdb_keys.specs.Ranges.{Range}
use Rattle.fdb_mutations.specs.Pairs.{pairs_within}
use Rattle.fdb_storage.specs.declared.version_list.VersionedValue.{VersionedValue}
use Rattle.fdb_storage.specs.VersionLists.{value_up_to}
use Rattle.fdb_storage.specs.VersionMaps.{VersionedKeys}

-- the key with its value, if it has one
abbrev pub pair_of : Point → Option (List ℕ) → List (Point × List ℕ)
pair_of key None = []
pair_of key (Some value) = (key, value) ∷ []

-- the keys at which something stands at the version, each with that
abbrev pub pairs_at : ℕ → VersionedKeys → List (Point × List ℕ)
pairs_at v [] = []
pairs_at v (held ∷ keys) = pair_of held.0 (value_up_to v held.1) ++ pairs_at v keys

-- those in the range, in the order of keys or in the reverse order
abbrev pub pairs_of : VersionedKeys → ℕ → Range → Bool → List (Point × List ℕ)
pairs_of keys v range is_reverse =
    if is_reverse then reverse (pairs_within range (pairs_at v keys)) else pairs_within range (pairs_at v keys)

-- something stands at the key at the version
abbrev pub is_live : ℕ → Point × List VersionedValue → Bool
is_live v held = is_some (value_up_to v held.1)

-- the keys from the range's begin on that come before its end
abbrev pub keys_between : Range → VersionedKeys → VersionedKeys
keys_between range keys = entries_between (slice_cmp nat_cmp) (Included range.begin) (Excluded range.end) keys

-- of keys that are lent, each with its versions
abbrev pub lent_keys : List (Bor Point × Bor (List VersionedValue)) → VersionedKeys
lent_keys keys = map (λ (held : Bor Point × Bor (List VersionedValue)). (held.0.now, held.1.now)) keys

-- the first items, one more than the limit says, or all of them where it is 0
abbrev pub first_more : ℕ → VersionedKeys → VersionedKeys
first_more limit keys = if nat_eq limit 0 then keys else take (limit + 1) keys
