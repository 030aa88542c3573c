-- The points that two ranges have in common, as a range.
use Rattle.std.specs.Prelude.{Bool, false, Option, Some, None, if◌then◌else◌}
use Rattle.fdb_keys.specs.Points.{Point}
use Rattle.fdb_keys.specs.Ranges.{Range, in_range, ranges_meet}
use Rattle.fdb_keys.specs.Insertion.{lesser_point, greater_point}

-- from the greater begin up to the lesser end
abbrev pub common_range : Range → Range → Range
common_range a b = record { begin = greater_point a.begin b.begin; end = lesser_point a.end b.end }

-- the points that lie in both ranges, if there are any
abbrev pub clipped_range : Range → Range → Option Range
clipped_range a b = if ranges_meet a b then Some (common_range a b) else None

-- the point lies in the range, if there is one
abbrev pub in_clipped : Option Range → Point → Bool
in_clipped None x = false
in_clipped (Some range) x = in_range range x
