use Rattle.fdb_layers.specs.Rolling.{AreSet, HasOthers}
use Rattle.fdb_layers.proofs.RollingLemmas.{on-ok-too, set-later, with-others}
use Rattle.fdb_layers.proofs.rolling.copy_and_confirm.Goals as goal

pub returns-clause-set : goal.returns-clause-set
returns-clause-set g c =
    let splits = g.C.ClusterName.config.resolver_splits in
    let pairs = c.args.pairs.now in
    let new = c.confirm.new.session in
    on-ok-too c.confirm.result (AreSet splits new.front pairs)
    (set-later splits c.copy_all.new.session.front new.front c.confirm.ensures.goes_on.seen pairs
    c.in_ok-copy_all.ensures.set)

pub returns-clause-others : goal.returns-clause-others
returns-clause-others g c =
    let splits = g.C.ClusterName.config.resolver_splits in
    let pairs = c.args.pairs.now in
    let new = c.confirm.new.session in
    with-others c.confirm.result (AreSet splits new.front pairs)
    (HasOthers g.C.ClusterName.config new.front pairs)
    (set-later splits c.copy_all.new.session.front new.front c.confirm.ensures.goes_on.seen pairs
    c.in_ok-copy_all.ensures.set)
    c.confirm.ensures.others
