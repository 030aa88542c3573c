-- A sorted list of ranges with one more range in it.
use Rattle.std.specs.Prelude.{List, [], ◌∷◌, if◌then◌else◌}
use Rattle.std.specs.List.{fold}
use Rattle.fdb_keys.specs.Points.{Point, point_lt}
use Rattle.fdb_keys.specs.Ranges.{Range, is_empty_range}

abbrev pub lesser_point : Point → Point → Point
lesser_point x y = if point_lt y x then y else x

abbrev pub greater_point : Point → Point → Point
greater_point x y = if point_lt x y then y else x

-- the shortest range that holds both
abbrev pub joined_range : Range → Range → Range
joined_range a b = record { begin = lesser_point a.begin b.begin; end = greater_point a.end b.end }

-- The range is carried along the list. What ends before it stays where it is. Where it ends before the
-- next range begins, it is put down there and the next one is carried on. Otherwise the two are joined.
unfoldable pub inserted : Range → List Range → List Range
inserted carried [] = carried ∷ []
inserted carried (range ∷ ranges) =
    if point_lt range.end carried.begin then range ∷ inserted carried ranges
    else (if point_lt carried.end range.begin then carried ∷ inserted range ranges
    else inserted (joined_range carried range) ranges)

-- The set with the range's points too. Of all lists that hold just those points it is the one that is
-- sorted, apart and without an empty range.
abbrev pub with_range : Range → List Range → List Range
with_range range ranges = if is_empty_range range then ranges else inserted range ranges

-- the set with the points of all these ranges too
abbrev pub with_ranges : List Range → List Range → List Range
with_ranges added ranges = fold (λ set range. with_range range set) ranges added
