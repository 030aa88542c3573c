-- Ranges and sets of ranges, as tests of a point.
use Rattle.std.specs.Prelude.{ℕ, Bool, true, not, ◌&&◌, ◌||◌, List, [], ◌∷◌, ◌++◌}
use Rattle.std.specs.List.{list_any}
use Rattle.fdb_keys.specs.Points.{Point, point_lt}

-- the points from `begin` up to but not including `end`
pub record Range : Type 0 where
  pub begin : List ℕ
  pub end : List ℕ

-- the point lies in the range
abbrev pub in_range : Range → Point → Bool
in_range range x = not (point_lt x range.begin) && point_lt x range.end

-- the point lies in some range of the list
abbrev pub in_set : List Range → Point → Bool
in_set ranges x = list_any (λ range. in_range range x) ranges

-- the range of one key: the least point after a text is the text with a zero byte at its end
abbrev pub single_range : List ℕ → Range
single_range key = record { begin = key; end = key ++ 0 ∷ [] }

-- the range has no point
abbrev pub is_empty_range : Range → Bool
is_empty_range range = not (point_lt range.begin range.end)

-- every point of the range lies in the other one
abbrev pub is_within : Range → Range → Bool
is_within range whole =
    is_empty_range range || (not (point_lt range.begin whole.begin) && not (point_lt whole.end range.end))

-- the two ranges have a point in common: the greater of their begins lies before both ends
abbrev pub ranges_meet : Range → Range → Bool
ranges_meet a b =
    point_lt a.begin a.end && point_lt a.begin b.end && (point_lt b.begin a.end && point_lt b.begin b.end)

-- the first range of the list, if any, begins after the point
abbrev pub begins_after : Point → List Range → Bool
begins_after x [] = true
begins_after x (range ∷ ranges) = point_lt x range.begin

-- the ranges are sorted, none touches the next, and none is empty
abbrev pub is_apart : List Range → Bool
is_apart [] = true
is_apart (range ∷ ranges) = point_lt range.begin range.end && begins_after range.end ranges && is_apart ranges
