-- Ranges that may be shared.
use Rattle.std.specs.Prelude.{List}
use Rattle.std.specs.Arc.{arc_value}
use Rattle.fdb_keys.specs.Ranges.{Range}
use Rattle.fdb_keys.specs.declared.shared_ranges.Form.{Form}
use Rattle.fdb_keys.specs.declared.shared_ranges.Form.TheVariants.{Own, One, Shared}

-- the ranges, whoever shares them
abbrev pub ranges_of : Form → List Range
ranges_of (Own ranges) = ranges
ranges_of (One range) = arc_value range
ranges_of (Shared ranges) = arc_value ranges
