use Rattle.std.proofs.Common.{◌≡◌, subst, false, IfOk, List, ℕ, rules}
use Rattle.std.proofs.lemmas.Iterator.{YieldsList-from_take}
use Rattle.std.proofs.lemmas.Iterator.Consumers.{YieldsList-from_rest, YieldsList-at, map_from_collect}
use Rattle.fdb_keys.specs.Points.{Point, point_lt}
use Rattle.fdb_mutations.specs.Lent.{lent_pairs}
use Rattle.fdb_mutations.proofs.MapsLemmas.{forward-bounds, found-forward}
use Rattle.fdb_mutations.proofs.pairs.forward.Goals as goal

pub range-requires : goal.range-requires
range-requires c =
    let ordered : point_lt c.end_text.result.now c.begin_text.result.now ≡ false = search rules in
    forward-bounds c.begin_text.result.now c.end_text.result.now ordered

pub returns : goal.returns
returns c =
    subst (λ (pairs : List (Point × List ℕ)). IfOk c.collect.result (λ found. lent_pairs found.items ≡ pairs))
    (found-forward c.args.pairs.now.entries c.args.range.now c.begin_text.result.now c.end_text.result.now c.args.limit
    c.count_of.result c.range.result c.begin_text.ensures c.end_text.ensures.value (c.range.ensures.between tt)
    c.range.ensures.ordered c.range.ensures.fits c.count_of.ensures)
    (map_from_collect c.collect.result c.collect.ensures.ran
    (YieldsList-from_take c.count_of.result
    (YieldsList-at c.take.ensures.source (YieldsList-from_rest c.range.result (search rules))) c.take.ensures.count))
