-- Which ranges of a sorted list a range touches, and what it becomes with them.
use Rattle.std.specs.Prelude.{Bool, false, not, Option, Some, None, List, if◌then◌else◌}
use Rattle.std.specs.List.{filter, last_or}
use Rattle.fdb_keys.specs.Insertion.{greater_point, joined_range}
use Rattle.fdb_keys.specs.Points.{Point, point_lt}
use Rattle.fdb_keys.specs.Ranges.{Range}

-- the last of the ranges that begin at the point or before it
abbrev pub last_by : Point → List Range → Option Range
last_by x ranges = last_or None (filter (λ range. not (point_lt x range.begin)) ranges)

-- the range ends by the end of the other one
abbrev pub ends_by : Range → Option Range → Bool
ends_by range None = false
ends_by range (Some other) = not (point_lt other.end range.end)

-- the range joined with the other one, which begins no later than it ends, if the two touch
abbrev pub joined_where_touching : Range → Option Range → Range
joined_where_touching range None = range
joined_where_touching range (Some other) = if point_lt other.end range.begin then range else joined_range range other

-- the range joined with those of a sorted list that it touches: the first one gives the begin, the last one the end
abbrev pub joined_with_touched : Range → List Range → Range
joined_with_touched range ranges =
    let from_first = joined_where_touching range (last_by range.begin ranges) in
    joined_where_touching from_first (last_by from_first.end ranges)

-- where the range goes on after the other one, which begins no later, if there is one
abbrev pub begin_past : Range → Option Range → Point
begin_past range None = range.begin
begin_past range (Some other) = greater_point range.begin other.end
