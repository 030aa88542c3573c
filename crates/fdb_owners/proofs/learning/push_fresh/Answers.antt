use Rattle.fdb_owners.proofs.FreshLemmas.{bounds-forward}
use Rattle.fdb_owners.proofs.learning.push_fresh.Goals as goal

pub range-point-items-requires : goal.range-point-items-requires
range-point-items-requires c =
    rw (c.begin.ensures, c.end.ensures.value)
    (bounds-forward c.in_ok-keyed.keyed.begin c.in_ok-keyed.keyed.end c.end.ensures.order)
