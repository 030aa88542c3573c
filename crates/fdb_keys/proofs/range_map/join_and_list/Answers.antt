use Rattle.std.proofs.Common.{◌∙◌, ap}
use Rattle.std.specs.BTreeMap.{values}
use Rattle.fdb_keys.specs.Points.{point_lt}
use Rattle.fdb_keys.specs.Ranges.{Range}
use Rattle.fdb_keys.proofs.TouchedLemmas.{some_touched}
use Rattle.fdb_keys.proofs.range_map.join_and_list.Goals as goal

pub list_begins_within-requires : goal.list_begins_within-requires
list_begins_within-requires c =
    ap (λ (r : Range). point_lt r.begin r.end) c.in_ok-joined.ensures
    ∙ some_touched c.args.range.now (values c.args.ranges.now) c.requires.some c.requires.apart
