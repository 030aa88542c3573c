-- Ranges of one list, sorted and not yet joined.
use Rattle.std.specs.Prelude.{Bool, true, not, ◌&&◌, List, [], ◌∷◌}
use Rattle.fdb_keys.specs.Points.{Point, point_lt}
use Rattle.fdb_keys.specs.Ranges.{Range}

-- the first range of the list, if any, begins at the point or after it
abbrev pub begins_from : Point → List Range → Bool
begins_from x [] = true
begins_from x (range ∷ ranges) = not (point_lt range.begin x)

-- the ranges are sorted by their begins, and none is empty
abbrev pub is_in_order : List Range → Bool
is_in_order [] = true
is_in_order (range ∷ ranges) =
    point_lt range.begin range.end && begins_from range.begin ranges && is_in_order ranges
