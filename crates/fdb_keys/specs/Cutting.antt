-- A range, cut at one of its keys.
use Rattle.std.specs.Prelude.{Bool, if◌then◌else◌}
use Rattle.fdb_keys.specs.Points.{Point}
use Rattle.fdb_keys.specs.Ranges.{Range, single_range}

-- the range up to and including the key, or from it on where the range is read from its end
abbrev pub range_through : Range → Bool → Point → Range
range_through range is_reverse key =
    if is_reverse then record { begin = key; end = range.end }
    else record { begin = range.begin; end = (single_range key).end }

-- what lies behind the key, or before it where the range is read from its end
abbrev pub range_behind : Range → Bool → Point → Range
range_behind range is_reverse key =
    if is_reverse then record { begin = range.begin; end = key }
    else record { begin = (single_range key).end; end = range.end }
