-- A set of keys that was added to key by key and range by range.
use Rattle.std.specs.Prelude.{◌≡◌, false, List, [], ◌∷◌, ◌++◌, map, if◌then◌else◌}
use Rattle.std.specs.List.{AllByRecursion}
use Rattle.fdb_keys.specs.Insertion.{with_ranges}
use Rattle.fdb_keys.specs.Points.{Point}
use Rattle.fdb_keys.specs.Ranges.{Range, single_range, is_empty_range}

-- the ranges with those of the keys, each of one key alone
abbrev pub with_keys : List Point → List Range → List Range
with_keys keys ranges = with_ranges (map single_range keys) ranges

-- all of the keys and ranges, as the shortest sorted list of ranges that holds them
abbrev pub joined : List Point → List Range → List Range
joined keys ranges = with_keys keys (with_ranges ranges [])

-- the list with the range behind it, which is left out where it is empty
abbrev pub with_listed : Range → List Range → List Range
with_listed range ranges = if is_empty_range range then ranges else ranges ++ range ∷ []

-- none of the ranges is empty
abbrev pub HavePoints : List Range → Type 0
HavePoints ranges = AllByRecursion (λ range. is_empty_range range ≡ false) ranges
