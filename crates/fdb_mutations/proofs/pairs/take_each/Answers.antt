use Rattle.std.proofs.Common.{refl, arith}
use Rattle.fdb_mutations.proofs.TakenLemmas.{few-within}
use Rattle.fdb_mutations.proofs.pairs.take_each.Goals as goal

pub loop-count-init : goal.loop-count-init
loop-count-init c =
    let few = few-within c.args.range.now c.args.pairs.now.entries in
    let all = c.len-count-end.ensures.len in
    (refl, omega (arith, few, all))
