-- The parts of a range with newer versions.
use Rattle.std.specs.Prelude.{ℕ, nat_lt, ◌&&◌, List, [], ◌∷◌, ◌++◌, if◌then◌else◌}
use Rattle.fdb_keys.specs.Points.{Point}
use Rattle.fdb_keys.specs.Ranges.{Range}
use Rattle.fdb_keys.specs.Removal.{range_between}
use Rattle.fdb_interval.specs.Breakpoints.{Breaks}

-- from a point up to but not including another one, where the version held there is above the bar
abbrev pub newer_piece : ℕ → ℕ → Point → Point → List Range
newer_piece bar held here next = if nat_lt bar held then range_between here next else []

-- The parts with versions above the bar, from a point up to but not including an end, by the version held at the point
-- and the breakpoints between the two. Where a breakpoint parts two such versions, one part goes on.
abbrev pub newer_pieces : ℕ → ℕ → Point → Breaks ℕ → Point → List Range
newer_pieces bar held here [] end = newer_piece bar held here end
newer_pieces bar held here (first ∷ rest) end =
    if nat_lt bar held && nat_lt bar first.1 then newer_pieces bar held here rest end
    else newer_piece bar held here first.0 ++ newer_pieces bar first.1 first.0 rest end
