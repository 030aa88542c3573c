-- Ranges without the points of others.
use Rattle.std.specs.Prelude.{List, [], ◌∷◌, ◌++◌, if◌then◌else◌}
use Rattle.std.specs.List.{flat_map, fold}
use Rattle.fdb_keys.specs.Points.{Point, point_lt}
use Rattle.fdb_keys.specs.Ranges.{Range, ranges_meet}

-- the points from a begin up to but not including an end: one range, or none where there is no point
abbrev pub range_between : Point → Point → List Range
range_between begin end = if point_lt begin end then record { begin = begin; end = end } ∷ [] else []

-- what of the range comes before the other one, and what comes after it
abbrev pub range_minus : Range → Range → List Range
range_minus range other =
    if ranges_meet range other then range_between range.begin other.begin ++ range_between other.end range.end
    else range_between range.begin range.end

-- the set without the range's points
abbrev pub without_range : Range → List Range → List Range
without_range range ranges = flat_map (λ held. range_minus held range) ranges

-- what of the range lies in none of the ranges, each of which is taken out of what is left
abbrev pub outside : List Range → Range → List Range
outside ranges range = fold (λ left held. without_range held left) (range_between range.begin range.end) ranges
