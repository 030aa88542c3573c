use Rattle.fdb_bench.proofs.ItemsLemmas.{items-push}
use Rattle.fdb_bench.proofs.resolver.items_of.Goals as goal

pub loop-place-preserved : goal.loop-place-preserved
loop-place-preserved c =
    rw c.in_ok-push.ensures.ok
    (items-push c.loop-place.place c.loop-place.items c.item_of.result c.loop-place.invariant
    c.item_of.ensures.0 c.item_of.ensures.1)
