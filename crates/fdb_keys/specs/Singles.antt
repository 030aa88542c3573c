-- The ranges of several keys.
use Rattle.std.specs.Prelude.{List}
use Rattle.std.specs.List.{flat_map}
use Rattle.fdb_keys.specs.Points.{Point}
use Rattle.fdb_keys.specs.Ranges.{single_range}

-- the ends of the ranges of the keys, one behind the other
abbrev pub ends_of : List Point → Point
ends_of keys = flat_map (λ key. (single_range key).end) keys
