use Rattle.std.proofs.Common.{ap}
use Rattle.std.specs.Ordering.{is_gt}
use Rattle.fdb_keys.proofs.PointOrder.{cmp_less}
use Rattle.fdb_keys.proofs.range_map.list_begins_within.Goals as goal

pub range-begin-items-requires : goal.range-begin-items-requires
range-begin-items-requires c =
    rw (c.begin_text.ensures, c.end_text.ensures.value)
    (ap is_gt (cmp_less c.args.range.now.begin c.args.range.now.end c.requires))
