use Rattle.std.proofs.lemmas.Bool.{both_ways}
use Rattle.fdb_layers.proofs.RollingLemmas.{begins-tested}
use Rattle.fdb_layers.proofs.rolling.count_same.Goals as goal

pub returns-then-starts_with : goal.returns-then-starts_with
returns-then-starts_with c = (
  c.starts_with.ensures.bound c.if-starts_with.true,
  (begins-tested c.args.pairs.now c.args.page.now c.starts_with.result c.starts_with.ensures.value).0
      c.if-starts_with.true,
)

pub returns : goal.returns
returns c rest same = both_ways c.starts_with.result c.if-starts_with.false
    ((begins-tested c.args.pairs.now c.args.page.now c.starts_with.result c.starts_with.ensures.value).1 rest same)
