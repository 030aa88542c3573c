use Rattle.fdb_keys.proofs.Exports.{cmp_less}
use Rattle.fdb_interval.proofs.breakpoints.list_inside.Goals as goal

pub range-begin-items-requires : goal.range-begin-items-requires
range-begin-items-requires c =
    rw (c.begin.ensures, c.end.ensures.value)
    (cmp_less c.args.range.now.begin c.args.range.now.end c.requires)
