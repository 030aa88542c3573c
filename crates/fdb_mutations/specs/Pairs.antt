-- The pairs of a map, in a range.
use Rattle.std.specs.Prelude.{ℕ, ◌+◌, ◌-◌, ◌^◌, ◌||◌, Bool, nat_eq, not, ◌&&◌, List, length, filter, take, reverse}
use Rattle.std.specs.Prelude.{if◌then◌else◌, Option, Some, None}
use Rattle.std.specs.List.{slice_get}
use Rattle.std.specs.FinMap.{entries}
use Rattle.fdb_keys.specs.Points.{Point}
use Rattle.fdb_keys.specs.Ranges.{Range, in_range}
use Rattle.fdb_keys.specs.Cutting.{range_through}
use Rattle.fdb_mutations.specs.Maps.{Map}

-- of some pairs those whose keys lie in the range
abbrev pub pairs_within : Range → List (Point × List ℕ) → List (Point × List ℕ)
pairs_within range pairs = filter (λ pair. in_range range pair.0) pairs

-- of some pairs those whose keys lie elsewhere
abbrev pub pairs_beside : Range → List (Point × List ℕ) → List (Point × List ℕ)
pairs_beside range pairs = filter (λ pair. not (in_range range pair.0)) pairs

-- the pairs of the map whose keys lie in the range, in key order, or from the end
abbrev pub pairs_in : Map → Range → Bool → List (Point × List ℕ)
pairs_in map range is_reverse =
    if is_reverse then reverse (pairs_within range (entries map)) else pairs_within range (entries map)

-- the first of the items, or all of them where the limit is 0
abbrev pub first_of : {T : Type 0} → ℕ → List T → List T
first_of limit items = if nat_eq limit 0 then items else take limit items

-- how many items to ask for to tell whether there are more than the limit says: all of them where 0
abbrev pub wanted : ℕ → ℕ
wanted limit = if nat_eq limit 0 || nat_eq limit (2 ^ 32 - 1) then 0 else limit + 1

-- there is a limit, and that many pairs were given, so more may follow
abbrev pub is_limit_reached : ℕ → List (Point × List ℕ) → Bool
is_limit_reached limit given = not (nat_eq limit 0) && nat_eq (length given) limit

-- the range up to and including the key of the last pair, or from it on where the pairs are read from the end
abbrev pub part_to_last : Range → Bool → Option (Point × List ℕ) → Range
part_to_last range is_reverse None = range
part_to_last range is_reverse (Some last) = range_through range is_reverse last.0

-- What a read of a range scanned, by the pairs that it was given: the whole range, unless the limit ended it. What
-- lies behind the last pair was not looked at then.
abbrev pub scanned : Range → ℕ → Bool → List (Point × List ℕ) → Range
scanned range limit is_reverse given =
    if is_limit_reached limit given then part_to_last range is_reverse (slice_get given (length given - 1)) else range
